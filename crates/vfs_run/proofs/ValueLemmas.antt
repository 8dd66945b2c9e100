-- One part more of a list of parts that have values.
use Rattle.std.proofs.Common.{◌≡◌, ℕ, ◌+◌, ◌<◌, List, [], ◌∷◌, ◌++◌, length, map, take, get_or, Option, Some, None, Bor, sym, ◌∙◌, refl, arith}
use Rattle.std.proofs.lemmas.List.{get_or-map, length-map}
use Rattle.std.proofs.lemmas.List.Folds.{fold_stuck}
use Rattle.std.proofs.lemmas.List.Sums.{fold_more}
use Rattle.vfs_run.specs.Lines.{values_of, and_one}

-- the texts that references point to
abbrev pub texts_of : List (Bor (List ℕ)) → List (List ℕ)
texts_of items = map (λ item. item.now) items

-- where a part has no value, the list has none
pub values_of-refused : {A : Type 0} (value_of : List ℕ → Option A) (items : List (Bor (List ℕ))) (i : ℕ) (item : Bor (List ℕ)) (values : List A)
    → i < length items → values_of value_of (take i (texts_of items)) ≡ Some values → value_of (get_or items i item).now ≡ None
    → values_of value_of (texts_of items) ≡ None
values_of-refused {A} value_of items i item values lt so_far none =
    let step : Option (List A) → List ℕ → Option (List A) = λ xs text. and_one xs (value_of text) in
    let at = get_or-map (λ (x : Bor (List ℕ)). x.now) items i item item.now lt in
    let within : i < length (texts_of items) = omega (arith, length-map items (λ (x : Bor (List ℕ)). x.now)) in
    sym (fold_stuck step None (λ text. refl) (Some []) (texts_of items) i item.now within (rw (so_far, at, none) refl))

-- a part with a value adds it
pub values_of-more : {A : Type 0} (value_of : List ℕ → Option A) (items : List (Bor (List ℕ))) (i : ℕ) (item : Bor (List ℕ)) (values : List A) (value : A)
    → i < length items → values_of value_of (take i (texts_of items)) ≡ Some values → value_of (get_or items i item).now ≡ Some value
    → values_of value_of (take (i + 1) (texts_of items)) ≡ Some (values ++ value ∷ [])
values_of-more {A} value_of items i item values value lt so_far some =
    let step : Option (List A) → List ℕ → Option (List A) = λ xs text. and_one xs (value_of text) in
    let at = get_or-map (λ (x : Bor (List ℕ)). x.now) items i item item.now lt in
    let within : i < length (texts_of items) = omega (arith, length-map items (λ (x : Bor (List ℕ)). x.now)) in
    fold_more step (Some []) (texts_of items) i item.now within ∙ rw (so_far, at, some) refl
