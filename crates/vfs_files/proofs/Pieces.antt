-- Bytes that are copied piece by piece.
use Rattle.std.proofs.Common.{◌≡◌, ◌≤◌, ◌<◌, ◌+◌, ◌-◌, ℕ, zero, suc, List, [], ◌∷◌, ◌++◌, length, take, drop, min, refl, sym, ap, ◌∙◌, arith, length-append, length-take, length-drop}
use Rattle.std.proofs.lemmas.List.{take_all, take_min, take-append-le, drop-drop}
use Rattle.vfs_segments.specs.Memory.{with_bytes_at}
use Rattle.vfs_files.specs.Bytes.{lengthened, written}

-- the beginning of two lists, one after the other
take-append : (k : ℕ) (xs ys : List ℕ) → take k (xs ++ ys) ≡ take k xs ++ take (k - length xs) ys
take-append zero xs ys = let none : zero - length xs ≡ zero = omega arith in rw none refl
take-append (suc k) [] ys = let all : suc k - zero ≡ suc k = omega arith in rw all refl
take-append (suc k) (x ∷ xs) ys =
    let less : suc k - suc (length xs) ≡ k - length xs = omega arith in
    rw less (ap (λ l. x ∷ l) (take-append k xs ys))

-- `done` bytes are the beginning of `from`, as many as fit into `len`; n bytes of a piece more are
-- the rest of what fits
pub take_piece : (from piece : List ℕ) (done n len : ℕ) → done ≡ min len (length from)
    → n ≡ min (length piece) (len - done)
    → take (done + n) (from ++ piece) ≡ take done from ++ take n piece
take_piece from piece done n len d e =
    let same : min (done + n) (length from) ≡ done = omega (arith, d, e) in
    let rest : done + n - length from ≡ n = omega (arith, d, e) in
    take-append (done + n) from piece
    ∙ ap (λ l. l ++ take (done + n - length from) piece)
    (sym (take_min (done + n) from) ∙ ap (λ k. take k from) same)
    ∙ ap (λ k. take done from ++ take k piece) rest

-- a list that was filled up to `done` is filled up to the end of one piece more
pub room_filled : (room filled from piece : List ℕ) (done n : ℕ)
    → done ≡ min (length room) (length from) → n ≡ min (length room - done) (length piece)
    → take done room ≡ take done from → take n filled ≡ take n piece
    → take (done + n) (take done room ++ filled) ≡ take (done + n) (from ++ piece)
room_filled room filled from piece done n d e so_far put =
    let long : length (take done room) ≡ done = omega (arith, length-take done room, d) in
    let all : done + n - length (take done room) ≡ n = omega (arith, long) in
    take-append (done + n) (take done room) filled
    ∙ ap (λ k. take (done + n) (take done room) ++ take k filled) all
    ∙ ap (λ l. l ++ take n filled) (take_all (done + n) (take done room) (omega (arith, long)))
    ∙ ap (λ l. l ++ take n filled) so_far ∙ ap (λ l. take done from ++ l) put
    ∙ sym (take_piece from piece done n (length room) d (omega (arith, e)))

-- what a write to a part of a vector leaves
pub vec_written : (len at : ℕ) (w xs : List ℕ) → len ≡ length xs → at + length w ≤ length xs
    → take len
    ((take at xs ++ (w ++ drop (length w) (drop at xs)))
    ++ drop (length (take at xs ++ (w ++ drop (length w) (drop at xs)))) xs)
    ≡ with_bytes_at at w xs
unfolding with_bytes_at
vec_written len at w xs e h =
    let x = take at xs ++ (w ++ drop (length w) (drop at xs)) in
    let size : length x ≡ len =
    omega (
      arith,
      length-append (take at xs) (w ++ drop (length w) (drop at xs)),
      length-append w (drop (length w) (drop at xs)),
      length-take at xs,
      length-drop (length w) (drop at xs),
      length-drop at xs,
    ) in
    take-append-le len x (drop (length x) xs) (omega arith) ∙ take_all len x (omega arith)
    ∙ ap (λ l. take at xs ++ (w ++ l)) (drop-drop (length w) at xs)

-- bytes of which some are written are those bytes
pub written_some : (old bytes : List ℕ) (off : ℕ) → 0 < length bytes
    → written old off bytes ≡ with_bytes_at off bytes (lengthened old (off + length bytes))
written_some old [] off some = absurd (omega arith)
written_some old (b ∷ bs) off some = refl
