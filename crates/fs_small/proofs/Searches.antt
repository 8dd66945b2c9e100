-- The first element of a list that passes a test, and its place.
use Rattle.std.proofs.Common.{◌≡◌, ◌<◌, ◌≤◌, ℕ, Bool, true, false, List, [], ◌∷◌, ◌++◌, length, take, drop, get_or, find, position, remove, Option, Some, None, slice_get, refl, suc, sym, ap, ◌∙◌, arith, ⊎_elim}
use Rattle.std.specs.List.{position_or_len}
use Rattle.std.specs.Option.{option_or}
use Rattle.std.proofs.Math.Seq.{drop-cons}
use Rattle.std.proofs.lemmas.Bool.{cond-true, cond-false}
use Rattle.std.proofs.lemmas.Grind.{common_steps}
use Rattle.std.proofs.lemmas.List.{take-append-drop}
use Rattle.std.proofs.lemmas.List.Folds.{find_at, find-append}
use Rattle.std.proofs.lemmas.List.Sums.{position_or_len_is, fails_before_first}
use Rattle.std.proofs.lemmas.List.Quantifiers.{position-Some}
use Rattle.std.proofs.lemmas.Option.{none-some, get_or_from_slice_get, slice_get_past, slice_get_read, slice_get_within, slice_get_cases}

module _ {X : Type 0} (p : X → Bool) (xs : List X) where
  at_place : (i : ℕ) → position_or_len p xs ≡ i → i < length xs → position p xs ≡ Some i
  at_place i is within = grind (arith, common_steps)

  at_no_place : length xs ≤ position_or_len p xs → position p xs ≡ None
  at_no_place past = grind (arith, common_steps)

  pub position_is : (i : ℕ) (d : X) → i < length xs → p (get_or xs i d) ≡ true
      → ((k : ℕ) → k < i → p (get_or xs k d) ≡ false) → position p xs ≡ Some i
  position_is i d within passes fails =
      at_place i (position_or_len_is p xs i d (omega arith) fails (λ _. passes)) within

  pub position_none : (d : X) → ((k : ℕ) → k < length xs → p (get_or xs k d) ≡ false)
      → position p xs ≡ None
  position_none d fails =
      let at = position_or_len_is p xs (length xs) d (omega arith) fails
      (λ h. absurd (omega (arith, h))) in
      at_no_place (omega (arith, at))

  pub find_is : (i : ℕ) (x : X) → position p xs ≡ Some i → x ≡ get_or xs i x
      → find p xs ≡ Some x
  find_is i x at is =
      let at' : position_or_len p xs ≡ i = grind (arith, common_steps) in
      let within : i < length xs = (position-Some p xs i x at).0 in
      find_at p xs ∙ ap (slice_get xs) at' ∙ slice_get_read xs (length xs) i x refl within is

  pub find_none : position p xs ≡ None → find p xs ≡ None
  find_none none =
      let past : length xs ≤ position_or_len p xs = grind (arith, common_steps) in
      find_at p xs ∙ slice_get_past xs (position_or_len p xs) past

  pub place_of_found : (x : X) → find p xs ≡ Some x
      → (i : ℕ) × (i < length xs) × (x ≡ get_or xs i x) × (position p xs ≡ Some i)
  place_of_found x found =
      let n = position_or_len p xs in
      let is : slice_get xs n ≡ Some x = sym (find_at p xs) ∙ found in
      let within : n < length xs = slice_get_within xs n x is in
      (n, within, sym (get_or_from_slice_get xs n x x is), at_place n refl within)

  pub position_missing : find p xs ≡ None → position p xs ≡ None
  position_missing none =
      let n = position_or_len p xs in
      let is : slice_get xs n ≡ None = sym (find_at p xs) ∙ none in
      ⊎_elim
      (λ some. absurd (none-some some.0 (sym is ∙ some.2)))
      (λ past. at_no_place past.0)
      (slice_get_cases xs n).1

  pub fails_at : position p xs ≡ None → (k : ℕ) (d : X) → k < length xs
      → p (get_or xs k d) ≡ false
  fails_at none k d within =
      let past : length xs ≤ position_or_len p xs = grind (arith, common_steps) in
      fails_before_first p xs k d (omega arith)

  -- ---- after one more

  pub find_pushed : (x : X) → position p xs ≡ None → p x ≡ true
      → find p (xs ++ x ∷ []) ≡ Some x
  find_pushed x none passes =
      find-append p xs (x ∷ [])
      ∙ ap (λ (o : Option X). option_or o (find p (x ∷ []))) (find_none none)
      ∙ cond-true (p x) (Some x) None passes

  pub find_push_other : (x : X) → p x ≡ false → find p (xs ++ x ∷ []) ≡ find p xs
  find_push_other x fails =
      find-append p xs (x ∷ [])
      ∙ ap (option_or (find p xs)) (cond-false (p x) (Some x) None fails)
      ∙ or_none (find p xs)
    where
      or_none : (o : Option X) → option_or o None ≡ o
      or_none None = refl
      or_none (Some y) = refl

  -- ---- without one

  pub find_removed_other : (i : ℕ) (x : X) → i < length xs → x ≡ get_or xs i x → p x ≡ false
      → find p (remove xs i) ≡ find p xs
  find_removed_other i x within is fails =
      let ys = drop (suc i) xs in
      let whole : take i xs ++ x ∷ ys ≡ xs =
      ap (λ (y : X). take i xs ++ y ∷ ys) is ∙ ap (λ (l : List X). take i xs ++ l)
      (sym (drop-cons xs i x within)) ∙ take-append-drop i xs in
      find-append p (take i xs) ys
      ∙ ap (option_or (find p (take i xs))) (sym (cond-false (p x) (Some x) (find p ys) fails))
      ∙ sym (find-append p (take i xs) (x ∷ ys)) ∙ ap (find p) whole
