-- Running totals of lengths, by which a place is found, and looks at them.
use Rattle.std.specs.Prelude.{ℕ, ◌+◌, ◌<◌, ◌≤◌, List, [], ◌∷◌, length, slice_index}

-- where each of the segments of these lengths ends, the first of which begins at a place
abbrev pub totals_from : ℕ → List ℕ → List ℕ
totals_from at [] = []
totals_from at (n ∷ lengths) = (at + n) ∷ totals_from (at + n) lengths

-- the running totals of lengths
abbrev pub totals_of : List ℕ → List ℕ
totals_of lengths = totals_from 0 lengths

-- no total is below an earlier one
pub record NeverFalls (totals : List ℕ) : Type 0 where
  pub ordered : (i j : ℕ) → i ≤ j → j < length totals → slice_index totals i ≤ slice_index totals j

-- totals, and how many looks at them were made
pub record Looked : Type 0 where
  pub totals : List ℕ
  pub looks : ℕ

-- totals that are kept, and how many have a place without further memory
pub record Kept : Type 0 where
  pub items : List ℕ
  pub capacity : ℕ
