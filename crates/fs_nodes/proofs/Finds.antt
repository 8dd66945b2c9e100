-- The first element of a list that passes a test, and what holds of each element.
use Rattle.std.proofs.Common.{◌≡◌, Bool, true, false, cond, not, List, [], ◌∷◌, map, Option, Some, None, find, filter, option_map, refl, sym, ap, ◌∙◌, subst, ⊎_elim}
use Rattle.std.specs.List.{AllByRecursion}
use Rattle.std.proofs.lemmas.Bool.{cases_Bool, cond-true, cond-false, not_from_true, not_from_false, both_ways}
use Rattle.std.proofs.lemmas.Option.{none-some, same_Some}

module _ {X : Type 0} where
  -- ---- what holds of each element

  pub every_both : (P Q : X → Type 0) (xs : List X) → AllByRecursion P xs → AllByRecursion Q xs
      → AllByRecursion (λ x. P x × Q x) xs
  every_both P Q [] all others = tt
  every_both P Q (y ∷ ys) all others =
      ((all.0, others.0), every_both P Q ys all.1 others.1)

  pub every_filter : (P : X → Type 0) (p : X → Bool) (xs : List X)
      → AllByRecursion P xs → AllByRecursion P (filter p xs)
  every_filter P p [] all = tt
  every_filter P p (y ∷ ys) all =
      let rest = every_filter P p ys all.1 in
      let Holds : List X → Type 0 = λ zs. AllByRecursion P zs in
      ⊎_elim
      (λ passes.
      subst Holds (sym (cond-true (p y) (y ∷ filter p ys) (filter p ys) passes)) (all.0, rest))
      (λ fails. subst Holds (sym (cond-false (p y) (y ∷ filter p ys) (filter p ys) fails)) rest)
      (cases_Bool (p y))

  pub every_map : (P Q : X → Type 0) (f : X → X) → ((x : X) → P x → Q (f x)) → (xs : List X)
      → AllByRecursion P xs → AllByRecursion Q (map f xs)
  every_map P Q f so [] all = tt
  every_map P Q f so (y ∷ ys) all = (so y all.0, every_map P Q f so ys all.1)

  pub every_weaker : (P Q : X → Type 0) → ((x : X) → P x → Q x) → (xs : List X)
      → AllByRecursion P xs → AllByRecursion Q xs
  every_weaker P Q so [] all = tt
  every_weaker P Q so (y ∷ ys) all = (so y all.0, every_weaker P Q so ys all.1)

  -- ---- the first that passes

  pub found_here : (p : X → Bool) (y : X) (ys : List X) (e : X) → p y ≡ true
      → find p (y ∷ ys) ≡ Some e → y ≡ e
  found_here p y ys e passes found =
      same_Some y e (sym (cond-true (p y) (Some y) (find p ys) passes) ∙ found)

  pub found_later : (p : X → Bool) (y : X) (ys : List X) (o : Option X) → p y ≡ false
      → find p (y ∷ ys) ≡ o → find p ys ≡ o
  found_later p y ys o fails found = sym (cond-false (p y) (Some y) (find p ys) fails) ∙ found

  pub every_found : (P : X → Type 0) (p : X → Bool) (xs : List X) (e : X)
      → AllByRecursion P xs → find p xs ≡ Some e → P e
  every_found P p [] e all found = absurd (none-some e found)
  every_found P p (y ∷ ys) e all found =
      ⊎_elim
      (λ passes. subst P (found_here p y ys e passes found) all.0)
      (λ fails. every_found P p ys e all.1 (found_later p y ys (Some e) fails found))
      (cases_Bool (p y))

  pub none_passes : (p : X → Bool) (xs : List X) → find p xs ≡ None
      → AllByRecursion (λ x. p x ≡ false) xs
  none_passes p [] none = tt
  none_passes p (y ∷ ys) none =
      ⊎_elim
      (λ passes. absurd (none-some y (sym none ∙ cond-true (p y) (Some y) (find p ys) passes)))
      (λ fails. (fails, none_passes p ys (found_later p y ys None fails none)))
      (cases_Bool (p y))

  -- ---- without some

  pub filter_all : (p : X → Bool) (xs : List X) → AllByRecursion (λ x. p x ≡ true) xs
      → filter p xs ≡ xs
  filter_all p [] all = refl
  filter_all p (y ∷ ys) all =
      cond-true (p y) (y ∷ filter p ys) (filter p ys) all.0
      ∙ ap (λ (l : List X). y ∷ l) (filter_all p ys all.1)

  pub find_filtered : (p : X → Bool) (xs : List X)
      → find p (filter (λ x. not (p x)) xs) ≡ None
  find_filtered p [] = refl
  find_filtered p (y ∷ ys) =
      let rest = filter (λ x. not (p x)) ys in
      ⊎_elim
      (λ passes. ap (find p) (cond-false (not (p y)) (y ∷ rest) rest (not_from_true (p y) passes))
      ∙ find_filtered p ys)
      (λ fails. ap (find p) (cond-true (not (p y)) (y ∷ rest) rest (not_from_false (p y) fails))
      ∙ cond-false (p y) (Some y) (find p rest) fails ∙ find_filtered p ys)
      (cases_Bool (p y))

  pub find_filter_other : (p q : X → Bool) → ((x : X) → q x ≡ true → p x ≡ false) → (xs : List X)
      → find q (filter (λ x. not (p x)) xs) ≡ find q xs
  find_filter_other p q apart [] = refl
  find_filter_other p q apart (y ∷ ys) =
      let rest = filter (λ x. not (p x)) ys in
      let more = find_filter_other p q apart ys in
      ⊎_elim
      (λ passes.
      let fails : q y ≡ false =
      ⊎_elim
      (λ (hit : q y ≡ true). absurd (both_ways (p y) (apart y hit) passes))
      (λ (miss : q y ≡ false). miss)
      (cases_Bool (q y)) in
      ap (find q) (cond-false (not (p y)) (y ∷ rest) rest (not_from_true (p y) passes)) ∙ more
      ∙ sym (cond-false (q y) (Some y) (find q ys) fails))
      (λ fails. ap (find q) (cond-true (not (p y)) (y ∷ rest) rest (not_from_false (p y) fails))
      ∙ ap (λ (o : Option X). cond (q y) (Some y) o) more)
      (cases_Bool (p y))

  -- with others in their places that pass as they did
  pub find_map : (p : X → Bool) (f : X → X) {Y : Type 0} (g : X → Y)
      → ((x : X) → p (f x) ≡ p x) → ((x : X) → g (f x) ≡ g x) → (xs : List X)
      → option_map g (find p (map f xs)) ≡ option_map g (find p xs)
  find_map p f g same shows [] = refl
  find_map p f g same shows (y ∷ ys) =
      let more = find_map p f g same shows ys in
      ⊎_elim
      (λ passes.
      ap (option_map g) (cond-true (p (f y)) (Some (f y)) (find p (map f ys)) (same y ∙ passes))
      ∙ ap (λ z. Some z) (shows y)
      ∙ sym (ap (option_map g) (cond-true (p y) (Some y) (find p ys) passes)))
      (λ fails.
      ap (option_map g) (cond-false (p (f y)) (Some (f y)) (find p (map f ys)) (same y ∙ fails))
      ∙ more
      ∙ sym (ap (option_map g) (cond-false (p y) (Some y) (find p ys) fails)))
      (cases_Bool (p y))

  pub map_all : (f : X → X) (xs : List X) → AllByRecursion (λ x. f x ≡ x) xs → map f xs ≡ xs
  map_all f [] all = refl
  map_all f (y ∷ ys) all =
      ap (λ (z : X). z ∷ map f ys) all.0 ∙ ap (λ (l : List X). y ∷ l) (map_all f ys all.1)
