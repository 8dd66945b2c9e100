-- Items that are read one after another.
use Rattle.std.proofs.Common.{◌≡◌, ℕ, zero, suc, ◌+◌, List, [], ◌∷◌, drop, Some, None, refl, ap, ◌∙◌, arith}
use Rattle.std.specs.List.{slice_get}
use Rattle.fs_small.specs.Tables.{Named}
use Rattle.fs_small.specs.ReadOnly.{item_at, items_from, items_after}

taken_there : (xs : List Named) (n : ℕ) (x : Named) → Some x ≡ slice_get xs n
    → drop n xs ≡ x ∷ drop (suc n) xs
taken_there [] n x e = cc
taken_there (y ∷ ys) zero x e = let same : y ≡ x = cc in ap (λ i. i ∷ ys) same
taken_there (y ∷ ys) (suc n) x e = taken_there ys n x e

-- the item at a place is the first that is read after it, with the offset after it
pub first_read : (xs : List Named) (n : ℕ) (x : Named) → Some x ≡ slice_get xs n
    → items_after xs n ≡ item_at (n + 1) x ∷ items_after xs (n + 1)
first_read xs n x e =
    let next : suc n ≡ n + 1 = omega arith in
    ap (items_from (n + 1)) (taken_there xs n x e ∙ ap (λ k. x ∷ drop k xs) next)

ended : (xs : List Named) (n : ℕ) → None ≡ slice_get xs n → drop n xs ≡ []
ended [] zero e = refl
ended [] (suc n) e = refl
ended (y ∷ ys) zero e = cc
ended (y ∷ ys) (suc n) e = ended ys n e

-- where a place has no item nothing is read after it
pub none_read : (xs : List Named) (n : ℕ) → None ≡ slice_get xs n → items_after xs n ≡ []
none_read xs n e = ap (items_from (n + 1)) (ended xs n e)
