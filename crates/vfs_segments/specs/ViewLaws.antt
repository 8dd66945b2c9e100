-- What is known of pieces that are read and written one after another, for those who implement a
-- positioned file.
use Rattle.std.proofs.Common.{◌≡◌, ℕ, ◌+◌, ◌<◌, ◌≤◌, true, false, eqb, List, [], ◌∷◌, ◌++◌, zero, suc, length, take, drop, map, set, get_or, ap, ◌∙◌, sym, refl, arith, append_assoc, append-nil, get_or-set_same, length-append, length-drop, length-set, take_at, drop_at, ⊎_elim}
use Rattle.std.proofs.lemmas.List.{take_all, map-set, set-get_or, get_or-map, drop_all, length-map, take_more, take-append-le, take-set-le}
use Rattle.std.proofs.lemmas.List.Folds.{concat-append}
use Rattle.std.proofs.lemmas.Bool.Decides.{eqb_tells}
use Rattle.std.specs.List.{concat}
use Rattle.vfs_segments.specs.Views.{Room, refilled, with_piece, with_any_piece, IsSameRoom}

-- past the first list the second one goes on
pub take-append_past : (xs ys : List ℕ) (n m : ℕ) → m ≡ length xs + n →
    take m (xs ++ ys) ≡ xs ++ take n ys
take-append_past [] ys n m e = let same : m ≡ n = omega arith in rw same
take-append_past (x ∷ xs) ys n zero e = absurd (omega arith)
take-append_past (x ∷ xs) ys n (suc m) e =
    ap (λ l. x ∷ l) (take-append_past xs ys n m (omega arith))

-- and what is dropped reaches into the second one
pub drop-append_past : (xs ys : List ℕ) (n m : ℕ) → m ≡ length xs + n →
    drop m (xs ++ ys) ≡ drop n ys
drop-append_past [] ys n m e = let same : m ≡ n = omega arith in rw same
drop-append_past (x ∷ xs) ys n zero e = absurd (omega arith)
drop-append_past (x ∷ xs) ys n (suc m) e = drop-append_past xs ys n m (omega arith)

-- a list that is written over another's front, where it fits
refilled_is : (old w : List ℕ) → length w ≤ length old → refilled old w ≡ w ++ drop (length w) old
refilled_is old w h =
    take_all (length old) (w ++ drop (length w) old)
    (omega (arith, length-append w (drop (length w) old), length-drop (length w) old))

-- a piece that ends with as many bytes as it had is written alone
pub with_any_piece_is : (v : Room) (i : ℕ) (w : List ℕ) → length w ≡ length (get_or v.pieces i []) →
    with_any_piece v i w ≡ with_piece v i w
unfolding with_any_piece
with_any_piece_is v i w e =
    let p = get_or v.pieces i [] in
    ⊎_elim
    (λ (q : (eqb (i + 1) (length v.pieces) ≡ true) × (i + 1 ≡ length v.pieces)).
    let all : refilled (p ++ v.rest) w ≡ w ++ v.rest =
    refilled_is (p ++ v.rest) w (omega (arith, length-append p v.rest))
    ∙ ap (λ l. w ++ l) (drop_at p v.rest (length w) (sym e)) in
    let front : take (length p) (refilled (p ++ v.rest) w) ≡ w =
    ap (take (length p)) all ∙ take_at w v.rest (length p) e in
    let back : drop (length p) (refilled (p ++ v.rest) w) ≡ v.rest =
    ap (drop (length p)) all ∙ drop_at w v.rest (length p) e in
    rw (q.0) (rw (front, back) refl))
    (λ (q : (eqb (i + 1) (length v.pieces) ≡ false) × (i + 1 ≡ length v.pieces → ⊥)).
    let all : refilled p w ≡ w =
    refilled_is p w (omega arith) ∙ ap (λ l. w ++ l) (drop_all (length w) p (omega arith))
    ∙ append-nil w in
    let front : take (length p) (refilled p w) ≡ w =
    ap (take (length p)) all ∙ take_all (length p) w (omega arith) in
    rw (q.0) (rw front refl))
    (eqb_tells (i + 1) (length v.pieces))

-- a room is the same as itself
pub IsSameRoom-refl : (v : Room) → IsSameRoom v v
IsSameRoom-refl v = record {
  before = refl;
  shape = refl;
  rest = refl;
  after = refl;
  lengths = refl;
}

-- what is the same as the same is the same
pub IsSameRoom-trans : (u v w : Room) → IsSameRoom u v → IsSameRoom v w → IsSameRoom u w
IsSameRoom-trans u v w p q = record {
  before = q.before ∙ p.before;
  shape = q.shape ∙ p.shape;
  rest = q.rest ∙ p.rest;
  after = q.after ∙ p.after;
  lengths = q.lengths ∙ p.lengths;
}

-- lists keep their lengths where one of them is replaced by another of its length
pub lengths-set : (xs : List (List ℕ)) (i : ℕ) (y : List ℕ) → i < length xs →
    length y ≡ length (get_or xs i []) → map length (set xs i y) ≡ map length xs
lengths-set xs i y h e =
    map-set length xs i y
    ∙ ap (λ n. set (map length xs) i n) (e ∙ sym (get_or-map length xs i [] 0 h))
    ∙ set-get_or (map length xs) i 0

-- a room of which one piece was written is the same
pub IsSameRoom-with_piece : (v : Room) (i : ℕ) (w : List ℕ) → i < length v.pieces →
    length w ≡ length (get_or v.pieces i []) → IsSameRoom v (with_piece v i w)
IsSameRoom-with_piece v i w h e =
    record {
      before = refl;
      shape = lengths-set v.pieces i w h e;
      rest = refl;
      after = refl;
      lengths = refl;
    }

-- lists of the same lengths have as many bytes together
pub length-concat-shape : (xs ys : List (List ℕ)) → map length ys ≡ map length xs →
    length (concat ys) ≡ length (concat xs)
length-concat-shape [] [] e = refl
length-concat-shape [] (y ∷ ys) e = absurd (omega (arith, ap length e))
length-concat-shape (x ∷ xs) [] e = absurd (omega (arith, ap length e))
length-concat-shape (x ∷ xs) (y ∷ ys) e =
    let first : length y ≡ length x = cc in
    let others : map length ys ≡ map length xs = cc in
    length-append y (concat ys) ∙ ap (λ n. n + length (concat ys)) first
    ∙ ap (λ n. length x + n) (length-concat-shape xs ys others)
    ∙ sym (length-append x (concat xs))

-- a piece has no more bytes than all pieces
pub length-piece-le : (ps : List (List ℕ)) (i : ℕ) → i < length ps →
    length (get_or ps i []) ≤ length (concat ps)
length-piece-le [] i h = absurd (omega arith)
length-piece-le (p ∷ ps) zero h = omega (arith, length-append p (concat ps))
length-piece-le (p ∷ ps) (suc i) h =
    omega (arith, length-append p (concat ps), length-piece-le ps i (omega arith))

-- the bytes of one piece more
pub concat-take_more : (ps : List (List ℕ)) (i : ℕ) → i < length ps →
    concat (take (i + 1) ps) ≡ concat (take i ps) ++ get_or ps i []
concat-take_more ps i h =
    ap concat (take_more ps i [] h) ∙ concat-append (take i ps) (get_or ps i [] ∷ [])
    ∙ ap (λ l. concat (take i ps) ++ l) (append-nil (get_or ps i []))

-- once piece i is w, the bytes of the pieces before it and the first m of its own
pub take-concat-set : (ps : List (List ℕ)) (i m k : ℕ) (w : List ℕ) → i < length ps → m ≤ length w →
    k ≡ length (concat (take i ps)) + m →
    take k (concat (set ps i w)) ≡ concat (take i ps) ++ take m w
take-concat-set [] i m k w h b e = absurd (omega arith)
take-concat-set (p ∷ ps) zero m k w h b e =
    let same : k ≡ m = omega arith in
    rw same (take-append-le m w (concat ps) b)
take-concat-set (p ∷ ps) (suc i) m k w h b e =
    let n : ℕ = length (concat (take i ps)) + m in
    take-append_past p (concat (set ps i w)) n k
    (omega (arith, length-append p (concat (take i ps))))
    ∙ ap (λ l. p ++ l) (take-concat-set ps i m n w (omega arith) b refl)
    ∙ sym (append_assoc p (concat (take i ps)) (take m w))

-- and all of its own
pub concat-take-set : (ps : List (List ℕ)) (i : ℕ) (w : List ℕ) → i < length ps →
    concat (take (i + 1) (set ps i w)) ≡ concat (take i ps) ++ w
concat-take-set ps i w h =
    concat-take_more (set ps i w) i (omega (arith, length-set ps i w))
    ∙ ap (λ l. concat l ++ get_or (set ps i w) i []) (take-set-le i ps i w (omega arith))
    ∙ ap (λ l. concat (take i ps) ++ l) (get_or-set_same ps i w [] h)

-- the same room has as many pieces
pub IsSameRoom-count : (u v : Room) → IsSameRoom u v → length v.pieces ≡ length u.pieces
IsSameRoom-count u v same =
    sym (length-map v.pieces length) ∙ ap length same.shape ∙ length-map u.pieces length

-- and as many bytes in them
pub IsSameRoom-total : (u v : Room) → IsSameRoom u v →
    length (concat v.pieces) ≡ length (concat u.pieces)
IsSameRoom-total u v same = length-concat-shape u.pieces v.pieces same.shape

-- it is so once piece i ends with other bytes, as many as it had
pub IsSameRoom-then_piece : (u v : Room) (i : ℕ) (w : List ℕ) → IsSameRoom u v →
    i < length v.pieces → length w ≡ length (get_or v.pieces i []) →
    IsSameRoom u (with_any_piece v i w)
IsSameRoom-then_piece u v i w same h e =
    rw (with_any_piece_is v i w e)
    (IsSameRoom-trans u v (with_piece v i w) same (IsSameRoom-with_piece v i w h e))

-- the pieces then
pub pieces-with_any_piece : (v : Room) (i : ℕ) (w : List ℕ) →
    length w ≡ length (get_or v.pieces i []) → (with_any_piece v i w).pieces ≡ set v.pieces i w
pieces-with_any_piece v i w e = ap (λ (r : Room). r.pieces) (with_any_piece_is v i w e)
