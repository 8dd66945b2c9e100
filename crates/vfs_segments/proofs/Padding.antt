-- Bytes with zeros after them.
use Rattle.std.proofs.Common.{◌≡◌, ℕ, ◌+◌, ◌-◌, ◌≤◌, List, [], ◌++◌, length, take, drop, replicate, ap, ◌∙◌, refl, sym, arith, append-nil, append_assoc, length-drop, length-take, take-append-drop}
use Rattle.std.proofs.lemmas.List.{drop-drop, drop-replicate, drop_all, take_all, take-append-le, take-take, take_at}
use Rattle.vfs_segments.specs.Segments.{with_bytes_at}
use Rattle.vfs_segments.proofs.Puts.{drop-append_past, take-append_past}

-- where the last eight bytes are zeros, the last n of them are
pub zeros_at_end : (n : ℕ) (out cleared : List ℕ) → n ≤ 8 → 8 ≤ length out →
    cleared ≡ with_bytes_at (length out - 8) (replicate 8 0) out → drop (length out - n) cleared ≡ replicate n 0
unfolding with_bytes_at
zeros_at_end n out cleared few long put =
    let at = length out - 8 in
    let front = take at out in
    let zeros : List ℕ = replicate 8 0 in
    let size : length front ≡ at = omega (arith, length-take at out) in
    let none : drop (at + length zeros) out ≡ [] = drop_all (at + length zeros) out (omega arith) in
    let rest : zeros ++ drop (at + length zeros) out ≡ zeros = ap (λ l. zeros ++ l) none ∙ append-nil zeros in
    let left : 8 - (8 - n) ≡ n = omega arith in
    ap (drop (length out - n)) (put ∙ ap (λ l. front ++ l) rest)
    ∙ drop-append_past front zeros (8 - n) (length out - n) (omega (arith, size))
    ∙ drop-replicate {X = ℕ} (8 - n) 8 0 ∙ ap (λ k. replicate k 0) left

-- a record put over the beginning, and bytes after it
pub spelled : (x bytes out cleared : List ℕ) (n zeros : ℕ) → length x ≡ n →
    length out ≡ n + length bytes + zeros → length cleared ≡ length out →
    drop (length out - zeros) cleared ≡ replicate zeros 0 →
    with_bytes_at n bytes (x ++ drop n cleared) ≡ x ++ (bytes ++ replicate zeros 0)
unfolding with_bytes_at
spelled x bytes out cleared n zeros e long same put =
    let rest = drop n cleared in
    let front : take n (x ++ rest) ≡ x = take_at x rest n e in
    let place : n + length bytes ≡ length out - zeros = omega arith in
    let back : drop (n + length bytes) (x ++ rest) ≡ replicate zeros 0 =
    drop-append_past x rest (length bytes) (n + length bytes) (omega (arith, e))
    ∙ drop-drop (length bytes) n cleared ∙ ap (λ k. drop k cleared) place ∙ put in
    rw (front, back) refl

-- the first m bytes of some, and then the last m of them, put over as many, are all of them
pub two_blocks : (at m : ℕ) (bytes out : List ℕ) → m ≤ length bytes → length bytes ≤ m + m → at + length bytes ≤ length out →
    with_bytes_at (at + (length bytes - m)) (take m (drop (length bytes - m) bytes)) (with_bytes_at at (take m bytes) out)
    ≡ with_bytes_at at bytes out
unfolding with_bytes_at
two_blocks at m bytes out long short fits =
    let k = length bytes - m in
    let front = take at out in
    let first = take m bytes in
    let last : take m (drop k bytes) ≡ drop k bytes = take_all m (drop k bytes) (omega (arith, length-drop k bytes)) in
    let size : length first ≡ m = omega (arith, length-take m bytes) in
    let before : length front ≡ at = omega (arith, length-take at out) in
    let rest = drop (at + length first) out in
    let half : take (at + k) (front ++ (first ++ rest)) ≡ front ++ take k bytes =
    take-append_past front (first ++ rest) k (at + k) (omega (arith, before))
    ∙ ap (λ l. front ++ l) (take-append-le k first rest (omega (arith, size)) ∙ take-take k m bytes (omega arith)) in
    let end : drop (at + k + length (drop k bytes)) (front ++ (first ++ rest)) ≡ drop (at + length bytes) out =
    drop-append_past front (first ++ rest) (length bytes) (at + k + length (drop k bytes)) (omega (arith, before, length-drop k bytes))
    ∙ drop-append_past first rest k (length bytes) (omega (arith, size))
    ∙ drop-drop k (at + length first) out ∙ ap (λ n. drop n out) (omega (arith, size)) in
    rw (last, half, end) (append_assoc front (take k bytes) (drop k bytes ++ drop (at + length bytes) out)
    ∙ ap (λ l. front ++ l) (sym (append_assoc (take k bytes) (drop k bytes) (drop (at + length bytes) out))
    ∙ ap (λ l. l ++ drop (at + length bytes) out) (take-append-drop k bytes)))
