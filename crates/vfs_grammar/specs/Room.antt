-- How a reply is put into a room. It leads to `IsReplied`, for every reply, and to `unseen`.
use Rattle.std.specs.Prelude.{◌≡◌, ℕ, List, ◌++◌, length, take, drop, nat_le, if◌then◌else◌, Option, None, Some, Result, Ok, Err}
use Rattle.vfs_grammar.specs.Reply.{Reply, Refusal, NoReply, Bytes, OpenAfter}
use Rattle.vfs_grammar.specs.declared.error.Error.{Error}
use Rattle.vfs_grammar.specs.declared.error.Error.TheVariants.{EncodeMessage}

-- The reply was put into the room. One that fits is there, before the old bytes after it, and
-- the outcome is its length; of another there is as much as the room has, and the outcome is
-- EncodeMessage.
pub record IsPut (reply room : List ℕ) (outcome : Result ℕ Error) (room_after : List ℕ) : Type 0 where
  pub says :
      outcome ≡ (if nat_le (length reply) (length room) then Ok (length reply) else Err EncodeMessage)
  pub leaves :
      room_after
      ≡ (if nat_le (length reply) (length room) then reply ++ drop (length reply) room
      else take (length room) reply)

-- The reply is put, and the room after it is open: the reply is at the beginning of the room, which it fits, and
-- the bytes after it are any, where `IsPut` says that they are the old ones.
pub record IsPutOpen (reply room : List ℕ) (outcome : Result ℕ Error) (room_after : List ℕ)
    : Type 0 where
  pub says : outcome ≡ Ok (length reply)
  pub begins : take (length reply) room_after ≡ reply
  pub same_length : length room_after ≡ length room

-- The rule of rooms: what comes back, put into this room, has this outcome and leaves these bytes
-- there.
abbrev pub IsReplied : Reply → (room : List ℕ) → Result ℕ Error → (room_after : List ℕ) → Type 0
IsReplied (Refusal error) room outcome room_after = (outcome ≡ Err error) × (room_after ≡ room)
IsReplied NoReply room outcome room_after = (outcome ≡ Ok 0) × (room_after ≡ room)
IsReplied (Bytes reply) room outcome room_after = IsPut reply room outcome room_after
IsReplied (OpenAfter reply) room outcome room_after = IsPutOpen reply room outcome room_after

-- the node of an entry that a client doesn't get to see: of one whose reply doesn't fit. Only `Bytes` may not,
-- for `IsPutOpen` says that its reply does
abbrev pub unseen : (room_len : ℕ) → Reply → Option ℕ → Option ℕ
unseen room_len reply None = None
unseen room_len (Bytes reply) (Some node) =
    if nat_le (length reply) room_len then None else Some node
unseen room_len reply (Some node) = None
