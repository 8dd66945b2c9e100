-- A line in memory.
use Rattle.std.specs.Prelude.{◌≡◌, ◌+◌, ◌-◌, ◌≤◌, ◌++◌, ◌∷◌, ℕ, List, All, length, take, drop, min, nat_lt, if◌then◌else◌, Option, Some, None, codes}
use Rattle.vfs_print.specs.Text.{IsPrintable}
use Rattle.vfs_print.specs.declared.part.Part.{Part}
use Rattle.vfs_print.specs.declared.message.Message.{Message}
use Rattle.vfs_print.specs.declared.message.Message.TheVariants.{Request, Reply}

-- A text was put after what a part that begins with the line had, if there is room for it.
abbrev pub PutsText : Part → (text : List ℕ) → Part → Type 0
PutsText old text new =
    old.from ≡ 0 → old.len + length text ≤ 4096 → All IsPrintable text
    → (new.from ≡ 0) × (new.len ≡ old.len + length text)
    × (take new.len new.bytes ≡ take old.len old.bytes ++ text)

-- a part of this line, which is short: where it begins with the line, it has all of it
abbrev pub IsBegun : (line : List ℕ) → (from : ℕ) → Part → Type 0
IsBegun line from part =
    from ≡ 0 → (part.len ≡ length line) × (take part.len part.bytes ≡ line)

-- how many bytes of a line of that many are in this memory before a 0
abbrev pub shown : (len : ℕ) → (memory : List ℕ) → ℕ
shown len memory = min len (length memory - 1)

-- A line of that many bytes is in memory: those that fit before a 0 are printable ASCII, and after the 0
-- the memory is as it was.
pub record IsLine (len : ℕ) (old new : List ℕ) : Type 0 where
  pub printable : All IsPrintable (take (shown len old) new)
  pub ends : drop (shown len old) new ≡ 0 ∷ drop (shown len old + 1) old

-- and it is this very line
pub record HasLine (line : List ℕ) (len : ℕ) (old new : List ℕ) : Type 0 where
  pub whole : len ≡ length line
  pub begins : take (shown len old) new ≡ take (shown len old) line

-- the line of a message without a whole header
abbrev pub short_line : Message → Option (List ℕ)
short_line (Request bytes options) =
    if nat_lt (length bytes.now) 40 then Some (codes "refused=DecodeMessage") else None
short_line (Reply request bytes) =
    if nat_lt (length bytes.now) 1 then Some (codes "-> no reply")
    else if nat_lt (length bytes.now) 16 then Some (codes "-> refused=DecodeMessage") else None
