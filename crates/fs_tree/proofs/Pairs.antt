-- Lists of pairs.
use Rattle.std.proofs.Common.{◌≡◌, ℕ, List, [], ◌∷◌, map, refl, ap}

-- pairs, taken apart and put together
pub same_pairs : (xs : List (ℕ × ℕ)) → map (λ p. (p.0, p.1)) xs ≡ xs
same_pairs [] = refl
same_pairs (x ∷ xs) = ap (λ l. x ∷ l) (same_pairs xs)
