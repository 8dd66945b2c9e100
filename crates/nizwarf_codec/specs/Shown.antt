-- What is there to be copied out.
use Rattle.std.specs.Prelude.{◌≡◌, ◌++◌, if◌then◌else◌, ℕ, List, [], ◌∷◌, take, drop, Option, None, Some}
use Rattle.vfs_segments.specs.Written.{Written, whole}
use Rattle.nizwarf_codec.specs.declared.memory.Part.{Part}
use Rattle.nizwarf_codec.specs.declared.memory.Memory.{Memory}

-- of memory with one segment, the first bytes of its last room
abbrev pub first_shown : (lengths : List ℕ) → (bytes : List ℕ) → (start shown : ℕ) → List ℕ
first_shown (n ∷ []) bytes start shown = take shown (drop start bytes)
first_shown lengths bytes start shown = []

-- the first bytes of the last room of a part
abbrev pub part_shown : Part → (shown : ℕ) → List ℕ
part_shown p shown = first_shown p.writer.lengths (whole p.writer) p.start shown

-- the bytes that are there to be copied out of this memory
abbrev pub bytes_shown : Memory → List ℕ
bytes_shown m = part_shown (if m.was_asked then m.asked else m.answers) m.shown

-- those of a slot
abbrev pub shown_in : Option Memory → List ℕ
shown_in None = []
shown_in (Some m) = bytes_shown m

-- ---- no more is of the promise: the rest is for contracts of parts

-- These are the first `count` bytes of the room that a writer had left, as they are afterwards.
pub record AreFirst (count : ℕ) (before after : Written) (bytes : List ℕ) : Type 0 where
  pub room : List ℕ
  pub kept : whole after ≡ before.passed ++ room
  pub first : bytes ≡ take count room
