-- Replies as they are put through a writer.
use Rattle.std.specs.Prelude.{⊤, ℕ, List, [], Option, Some, None, pos, ◌+◌, ◌-ℤ◌, Result, Ok, Err, ◌≡◌, ◌≤◌, ◌++◌, length}
use Rattle.vfs_wire.specs.Fields.{Table, bytes_of}
use Rattle.vfs_wire.specs.Records.{out_header}
use Rattle.vfs_wire.specs.declared.headers.OutHeader.{OutHeader}
use Rattle.vfs_segments.specs.Written.{Written, Leaves, Moves, held_over}
use Rattle.vfs_grammar.specs.Records.{size_of}
use Rattle.vfs_grammar.specs.Reply.{Reply, Refusal, NoReply, Bytes, OpenAfter}
use Rattle.vfs_grammar.specs.Words.{fault_number}
use Rattle.vfs_grammar.specs.declared.error.Error.{Error}
use Rattle.vfs_grammar.specs.Room.{IsReplied}

-- the bytes of a record, where there is one
abbrev pub bytes_of_option : {R : Type 0} → Table R → Option R → List ℕ
bytes_of_option t None = []
bytes_of_option t (Some r) = bytes_of t r

-- how many they are
abbrev pub size_of_option : {R : Type 0} → Table R → Option R → ℕ
size_of_option t None = 0
size_of_option t (Some r) = size_of t

-- bytes that may be there
abbrev pub bytes_or_none : Option (List ℕ) → List ℕ
bytes_or_none None = []
bytes_or_none (Some bytes) = bytes

-- the header of a reply after which that many bytes of data were put, or of a fault
abbrev pub data_header : Result ℕ (Option ℕ) → (unique : ℕ) → OutHeader
data_header (Ok count) unique =
    record { len = size_of out_header + count; error = pos 0; unique = unique }
data_header (Err fault) unique =
    record {
      len = size_of out_header;
      error = pos 0 -ℤ pos (fault_number fault);
      unique = unique;
    }

-- a writer whose room goes on after what it has left
abbrev pub with_after : Written → (following : List ℕ) → Written
with_after w following = record w { left = w.left ++ following }

-- bytes came back through a writer; it holds nothing if it held nothing
pub record Writes (reply : Reply) (old : Written) (outcome : Result ℕ Error) (new : Written)
    : Type 0 where
  pub room_after : List ℕ
  pub leaves : Leaves old room_after new
  pub says : IsReplied reply old.left outcome room_after
  pub no_hold : old.held ≡ 0 → new.held ≡ 0

-- the rule of rooms, said of a writer: one through which no bytes come back is as it was
abbrev pub Replies : Reply → (old : Written) → Result ℕ Error → (new : Written) → Type 0
Replies (Refusal error) old outcome new = (outcome ≡ Err error) × (new ≡ old)
Replies NoReply old outcome new = (outcome ≡ Ok 0) × (new ≡ old)
Replies (Bytes reply) old outcome new = Writes (Bytes reply) old outcome new
Replies (OpenAfter reply) old outcome new = Writes (OpenAfter reply) old outcome new

-- a reply of at most that many bytes, after which the room stays as it was
abbrev pub IsShortReply : (most : ℕ) → Reply → Type 0
IsShortReply most (Refusal error) = ⊤
IsShortReply most NoReply = ⊤
IsShortReply most (Bytes reply) = length reply ≤ most
IsShortReply most (OpenAfter reply) = ⊥

-- These bytes were put into a writer after the place of a reply's header, which it holds, and
-- perhaps others beyond them, which don't count. What comes after them in the room isn't said.
pub record PutsAfterHeader (old : Written) (bytes : List ℕ) (new : Written) : Type 0 where
  pub beyond : List ℕ
  pub enough : size_of out_header ≤ length old.left
  pub moves : Moves (held_over old (size_of out_header)) (bytes ++ beyond) new
