-- The segments of a CREATE.
use Rattle.std.proofs.Common.{◌≡◌, ◌≤◌, ◌<◌, ◌+◌, ◌-◌, ◌++◌, ◌∙◌, ℕ, zero, suc, List, [], ◌∷◌, length, take, drop, get_or, ap, sym, arith, append_assoc, append-nil, length-append, length-take, length-drop}
use Rattle.std.proofs.lemmas.List.{map-append, take-append-le, take_more}
use Rattle.std.proofs.lemmas.List.Folds.{concat-append}
use Rattle.std.specs.Borrow.{Bor}
use Rattle.std.specs.List.{concat}
use Rattle.std.specs.Prelude.{min}
use Rattle.vfs_segments.proofs.Flat.{concat-split}
use Rattle.vfs_segments.specs.Segments.{flat_bytes, segments_of}
use Rattle.vfs_wire.specs.Fields.{little}
use Rattle.laws_flight.specs.OfferedTurns.{as_create}

-- ---- the first bytes of two pieces, and those after

take-append_both : (n : ℕ) (xs ys : List ℕ) → take n (xs ++ ys) ≡ take n xs ++ take (n - length xs) ys
take-append_both zero xs ys =
    let none : 0 ≡ 0 - length xs = omega arith in ap (λ (k : ℕ). take k ys) none
take-append_both (suc n) [] ys =
    let all : suc n ≡ suc n - 0 = omega arith in ap (λ (k : ℕ). take k ys) all
take-append_both (suc n) (x ∷ xs) ys =
    let less : n - length xs ≡ suc n - length (x ∷ xs) = omega arith in
    ap (λ (l : List ℕ). x ∷ l)
    (take-append_both n xs ys ∙ ap (λ (k : ℕ). take n xs ++ take k ys) less)

drop-append_both : (n : ℕ) (xs ys : List ℕ) → drop n (xs ++ ys) ≡ drop n xs ++ drop (n - length xs) ys
drop-append_both zero xs ys =
    let none : 0 ≡ 0 - length xs = omega arith in ap (λ (k : ℕ). xs ++ drop k ys) none
drop-append_both (suc n) [] ys =
    let all : suc n ≡ suc n - 0 = omega arith in ap (λ (k : ℕ). drop k ys) all
drop-append_both (suc n) (x ∷ xs) ys =
    let less : n - length xs ≡ suc n - length (x ∷ xs) = omega arith in
    drop-append_both n xs ys ∙ ap (λ (k : ℕ). drop n xs ++ drop k ys) less

take_min : (n : ℕ) (xs : List ℕ) → take (min (length xs) n) xs ≡ take n xs
take_min zero xs = let none : min (length xs) 0 ≡ 0 = omega arith in ap (λ (k : ℕ). take k xs) none
take_min (suc n) [] = let none : min 0 (suc n) ≡ 0 = omega arith in ap (λ (k : ℕ). take {A = ℕ} k []) none
take_min (suc n) (x ∷ xs) =
    let more : min (length (x ∷ xs)) (suc n) ≡ suc (min (length xs) n) = omega arith in
    ap (λ (k : ℕ). take k (x ∷ xs)) more ∙ ap (λ (l : List ℕ). x ∷ l) (take_min n xs)

drop_min : (n : ℕ) (xs : List ℕ) → drop (min (length xs) n) xs ≡ drop n xs
drop_min zero xs = let none : min (length xs) 0 ≡ 0 = omega arith in ap (λ (k : ℕ). drop k xs) none
drop_min (suc n) [] = let none : min 0 (suc n) ≡ 0 = omega arith in ap (λ (k : ℕ). drop {A = ℕ} k []) none
drop_min (suc n) (x ∷ xs) =
    let more : min (length (x ∷ xs)) (suc n) ≡ suc (min (length xs) n) = omega arith in
    ap (λ (k : ℕ). drop k (x ∷ xs)) more ∙ drop_min n xs

-- ---- one segment more

-- the bytes of a list to which one was added
pub pushed : (items : List (Bor (List ℕ))) (x : Bor (List ℕ))
    → flat_bytes (segments_of (items ++ x ∷ [])) ≡ flat_bytes (segments_of items) ++ x.now
pushed items x =
    ap concat (map-append (λ (s : Bor (List ℕ)). s.now) items (x ∷ []))
    ∙ concat-append (segments_of items) (x.now ∷ [])
    ∙ ap (λ (l : List ℕ). concat (segments_of items) ++ l) (append-nil x.now)

module _ (segments : List (List ℕ)) (i : ℕ) where
  -- the bytes of the segments so far
  abbrev so_far : List ℕ
  so_far = concat (take i segments)

  -- where all are there, no more are added
  pub full : (count left : ℕ) → left ≡ count - length so_far → left ≡ 0
      → take count so_far ≡ take count (concat segments)
  full count left is none =
      sym (take-append-le count so_far (concat (drop i segments)) (omega (arith, is, none)))
      ∙ ap (take count) (sym (concat-split segments i))

  module _ (part : List ℕ) (within : i < length segments) (part_is : get_or segments i [] ≡ part)
      (count left len : ℕ) (left_is : left ≡ count - length so_far) (len_is : len ≡ min (length part) left)
      (before list new piece : List ℕ) (new_is : new ≡ list ++ piece) where
    next : concat (take (i + 1) segments) ≡ so_far ++ part
    next =
        ap concat (take_more segments i [] within) ∙ concat-append (take i segments) (get_or segments i [] ∷ [])
        ∙ ap (λ (l : List ℕ). so_far ++ l) (append-nil _ ∙ part_is)

    pub less : left - len ≡ count - length (concat (take (i + 1) segments))
    less =
        let long = ap length next ∙ length-append so_far part in
        omega (arith, left_is, len_is, long)

    pub first_more : list ≡ before ++ take count so_far → piece ≡ take len part
        → new ≡ before ++ take count (concat (take (i + 1) segments))
    first_more list_is piece_is =
        let same : piece ≡ take (count - length so_far) part =
        piece_is ∙ ap (λ (k : ℕ). take k part) len_is ∙ take_min left part
        ∙ ap (λ (k : ℕ). take k part) left_is in
        new_is ∙ ap (λ (l : List ℕ). l ++ piece) list_is ∙ append_assoc before (take count so_far) piece
        ∙ ap (λ (l : List ℕ). before ++ l)
        (ap (λ (l : List ℕ). take count so_far ++ l) same ∙ sym (take-append_both count so_far part)
        ∙ ap (take count) (sym next))

    pub after_more : list ≡ before ++ drop count so_far → piece ≡ drop len part
        → new ≡ before ++ drop count (concat (take (i + 1) segments))
    after_more list_is piece_is =
        let same : piece ≡ drop (count - length so_far) part =
        piece_is ∙ ap (λ (k : ℕ). drop k part) len_is ∙ drop_min left part
        ∙ ap (λ (k : ℕ). drop k part) left_is in
        new_is ∙ ap (λ (l : List ℕ). l ++ piece) list_is ∙ append_assoc before (drop count so_far) piece
        ∙ ap (λ (l : List ℕ). before ++ l)
        (ap (λ (l : List ℕ). drop count so_far ++ l) same ∙ sym (drop-append_both count so_far part)
        ∙ ap (drop count) (sym next))

-- CREATE's number between the first four bytes and those after the eighth
pub created : (q none first second last : List ℕ) → none ≡ [] → first ≡ none ++ take 4 q
    → second ≡ first ++ (35 ∷ 0 ∷ 0 ∷ 0 ∷ []) → last ≡ second ++ drop 8 q → last ≡ as_create q
unfolding little
created q none first second last is0 is1 is2 is3 =
    is3
    ∙ ap (λ (l : List ℕ). l ++ drop 8 q)
    (is2 ∙ ap (λ (l : List ℕ). l ++ (35 ∷ 0 ∷ 0 ∷ 0 ∷ [])) (is1 ∙ ap (λ (l : List ℕ). l ++ take 4 q) is0))
    ∙ append_assoc (take 4 q) (35 ∷ 0 ∷ 0 ∷ 0 ∷ []) (drop 8 q)

-- it has no more bytes than a request that has more than eight
pub created_len : (q : List ℕ) (most : ℕ) → 9 ≤ most → most ≤ length (as_create q) → most ≤ length q
unfolding little
created_len q most many long =
    let parts : length (as_create q) ≡ length (take 4 q) + (4 + length (drop 8 q)) =
    length-append (take 4 q) ((35 ∷ 0 ∷ 0 ∷ 0 ∷ []) ++ drop 8 q)
    ∙ ap (λ (n : ℕ). length (take 4 q) + n) (length-append (35 ∷ 0 ∷ 0 ∷ 0 ∷ []) (drop 8 q)) in
    omega (arith, long, many, parts, length-take 4 q, length-drop 8 q)
