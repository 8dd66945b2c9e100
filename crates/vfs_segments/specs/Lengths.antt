-- The lengths of segments that are cut in two at a place, and the bytes that lie in one of them.
use Rattle.std.specs.Prelude.{ℕ, ◌+◌, ◌-◌, ◌==◌, Bool, List, [], ◌∷◌, nat_le, nat_lt, if◌then◌else◌}

-- Whether the n bytes from a place on lie in one of the segments of these lengths. Where n is 0
-- they do, at each place.
abbrev pub lie_together : (at n : ℕ) → List ℕ → Bool
lie_together at n [] = n == 0
lie_together at n (m ∷ lengths) =
    if nat_lt at m then nat_le (at + n) m else lie_together (at - m) n lengths

-- ---- no more is of the promise: the rest is for proofs, and for contracts of parts

-- The lengths of the segments before a place, where one in which it lies ends there. Segments of no
-- bytes that end at the place are among them.
abbrev pub lengths_before : ℕ → List ℕ → List ℕ
lengths_before at [] = []
lengths_before at (n ∷ lengths) =
    if nat_lt at n
    then (if at == 0 then [] else (at ∷ []))
    else (n ∷ lengths_before (at - n) lengths)

-- the lengths of the segments from a place on, where one in which it lies begins there
abbrev pub lengths_from : ℕ → List ℕ → List ℕ
lengths_from at [] = []
lengths_from at (n ∷ lengths) =
    if nat_lt at n then ((n - at) ∷ lengths) else lengths_from (at - n) lengths
