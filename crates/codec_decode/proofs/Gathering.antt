-- One segment more of the first bytes of a request.
use Rattle.std.proofs.Common.{◌≡◌, ◌≢◌, ◌≤◌, ◌<◌, ◌+◌, ◌-◌, ◌++◌, ◌∙◌, ℕ, true, List, [], ◌∷◌, length, take, drop, get_or, nat_le, ap, sym, arith, append_assoc, append-nil, length-append, length-drop}
use Rattle.std.proofs.lemmas.Bool.Decides.{nat_tests}
use Rattle.std.proofs.lemmas.List.{drop-drop, drop_at, nil_from_length, take-append-le, take_all, take_at, take_more}
use Rattle.std.proofs.lemmas.List.Folds.{concat-append}
use Rattle.std.proofs.Math.Seq.{take-add}
use Rattle.std.specs.List.{concat}
use Rattle.std.specs.Prelude.{min}
use borrow.Rule.Slice.PartMut.{put_mid, post_of}
use Rattle.vfs_segments.proofs.Flat.{concat-split, length-concat-split, length-concat-take_more}

module _ (segments : List (List ℕ)) (i : ℕ) where
  -- the bytes of the segments so far
  abbrev so_far : List ℕ
  so_far = concat (take i segments)

  one_more : i < length segments → concat (take (i + 1) segments) ≡ so_far ++ get_or segments i []
  one_more within =
      ap concat (take_more segments i [] within) ∙ concat-append (take i segments) (get_or segments i [] ∷ [])
      ∙ ap (λ (l : List ℕ). so_far ++ l) (append-nil _)

  module _ (part : List ℕ) (len k : ℕ) (front old new : List ℕ) (within : i < length segments)
      (part_is : get_or segments i [] ≡ part) (len_is : len ≡ min (length so_far) (length old))
      (front_is : front ≡ take len so_far ++ drop len old) (same : length front ≡ length old)
      (not_full : len ≢ length front) (k_is : k ≡ min (length part) (length front - len))
      (new_is : new ≡ take k part ++ drop k (drop len front)) where
    all : length so_far ≡ len
    all = omega (arith, len_is, same, not_full)

    next : concat (take (i + 1) segments) ≡ so_far ++ part
    next = one_more within ∙ ap (λ (p : List ℕ). so_far ++ p) part_is

    pub count_more : len + k ≡ min (length (concat (take (i + 1) segments))) (length old)
    count_more =
        let long = ap length next ∙ length-append so_far part in
        omega (arith, all, len_is, same, k_is, long)

    is : front ≡ so_far ++ drop len old
    is = front_is ∙ ap (λ (x : List ℕ). x ++ drop len old) (take_all len so_far (omega (arith, all)))

    head : take len front ≡ so_far
    head = ap (take len) is ∙ take_at so_far (drop len old) len all

    tail : drop len front ≡ drop len old
    tail = ap (drop len) is ∙ drop_at so_far (drop len old) len all

    none : post_of len (length front - len) front ≡ []
    none =
        let n = length-drop (length front - len) (drop len front) in
        let m = length-drop len front in
        nil_from_length (post_of len (length front - len) front) (omega (arith, n, m))

    written : new ≡ take k part ++ drop (len + k) old
    written =
        new_is ∙ ap (λ (x : List ℕ). take k part ++ drop k x) tail ∙ ap (λ (x : List ℕ). take k part ++ x) (drop-drop k len old)

    taken : take (len + k) (so_far ++ part) ≡ so_far ++ take k part
    taken =
        take-add len k (so_far ++ part) ∙ ap (λ (x : List ℕ). x ++ take k (drop len (so_far ++ part))) (take_at so_far part len all)
        ∙ ap (λ (x : List ℕ). so_far ++ take k x) (drop_at so_far part len all)

    pub copied_more : put_mid len (length front - len) front new
        ≡ take (len + k) (concat (take (i + 1) segments)) ++ drop (len + k) old
    copied_more =
        ap (λ (x : List ℕ). x ++ (new ++ post_of len (length front - len) front)) head
        ∙ ap (λ (x : List ℕ). so_far ++ (new ++ x)) none
        ∙ ap (λ (x : List ℕ). so_far ++ x) (append-nil new)
        ∙ ap (λ (x : List ℕ). so_far ++ x) written
        ∙ sym (append_assoc so_far (take k part) (drop (len + k) old))
        ∙ ap (λ (x : List ℕ). x ++ drop (len + k) old) (sym taken)
        ∙ ap (λ (x : List ℕ). take (len + k) x ++ drop (len + k) old) (sym next)

  -- where all is full, no more is copied
  pub full_count : (len : ℕ) (old : List ℕ) → len ≡ min (length so_far) (length old) → len ≡ length old
      → len ≡ min (length (concat segments)) (length old)
  full_count len old is full = let n = length-concat-split segments i in omega (arith, is, full, n)

  pub full_copied : (len : ℕ) (front old : List ℕ) → len ≡ min (length so_far) (length old)
      → front ≡ take len so_far ++ drop len old → front ≡ take len (concat segments) ++ drop len old
  full_copied len front old len_is is =
      is ∙ ap (λ (x : List ℕ). x ++ drop len old)
      (sym (take-append-le len so_far (concat (drop i segments)) (omega (arith, len_is)))
      ∙ ap (take len) (sym (concat-split segments i)))

  -- ---- how long a request is

  pub wanted_less : (least wanted next : ℕ) (part : List ℕ) → i < length segments → get_or segments i [] ≡ part
      → wanted ≡ least - length so_far → next ≡ wanted - length part
      → next ≡ least - length (concat (take (i + 1) segments))
  wanted_less least wanted next part within part_is wanted_is next_is =
      let n = length-concat-take_more segments i within in
      let m = ap length part_is in
      omega (arith, n, m, wanted_is, next_is)

  pub none_wanted : (least wanted : ℕ) → wanted ≡ least - length so_far → wanted ≡ 0
      → true ≡ nat_le least (length (concat segments))
  none_wanted least wanted is none =
      let n = length-concat-split segments i in
      let enough : least ≤ length (concat segments) = omega (arith, n, is, none) in
      grind (arith, nat_tests, enough)
