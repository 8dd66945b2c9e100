-- A request with another opcode.
use Rattle.std.specs.Prelude.{ℕ, List, ◌++◌, take, drop}
use Rattle.vfs_wire.specs.Fields.{little}
use Rattle.vfs_segments.specs.Unread.{Unread}

-- the bytes of a request with this number in place of its opcode, which is in place 4
abbrev pub with_opcode : (opcode : ℕ) → (request : List ℕ) → List ℕ
with_opcode opcode q = take 4 q ++ (little 4 opcode ++ drop 8 q)

-- what a reader has left, with this number in place of the opcode
abbrev pub unread_with_opcode : (opcode : ℕ) → Unread → Unread
unread_with_opcode opcode u = record u { left = with_opcode opcode u.left }
