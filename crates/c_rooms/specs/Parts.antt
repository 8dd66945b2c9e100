-- What of a room is there to be copied out.
use Rattle.std.specs.Prelude.{ℕ, List, take, drop}

-- the bytes that are there to be copied out, from place `at` on
abbrev pub part_from : (at : ℕ) → (room : List ℕ) → (shown : ℕ) → List ℕ
part_from at room shown = drop at (take shown room)
