-- Which memory a server keeps for its replies, and which requests want no other; and what comes of one of a row.
use Rattle.std.specs.Prelude.{◌≡◌, ◌⊎◌, ℕ, ℤ, List, drop}
use Rattle.vfs_segments.specs.Lengths.{lengths_from}
use Rattle.vfs_segments.specs.Segments.{flat_bytes, lengths_of}
use Rattle.vfs_segments.specs.Unread.{Unread}
use Rattle.vfs_server.specs.Memory.{WantsNoMemory}
use Rattle.vfs_server.specs.Step.{ServerState}
use Rattle.codec_decode.specs.Further.{Ordinary}
use Rattle.c_rooms.specs.Places.{Lends}
use Rattle.nizwarf_tree.specs.Files.{State}
use Rattle.nizwarf_tree.specs.Offered.{what_asked}
use Rattle.nizwarf_tree.specs.Served.{Refused, RowInC}
use Rattle.nizwarf_tree.specs.declared.instance.Instance.{Instance}

-- it keeps memory for a room of that many bytes
abbrev pub KeepsFor : (total : ℕ) → Instance → Type 0
KeepsFor total s = Lends total s.list s.room

-- a reader of all bytes of a request that lies in these segments
abbrev pub unread_in : List (List ℕ) → Unread
unread_in segments =
    record { left = flat_bytes segments; taken = 0; pieces = lengths_from 0 (lengths_of segments) }

-- a request that lies in these segments asks by virtiofsd's table, and wants no memory but for its reply
pub record WantsNone (server : ServerState State) (total : ℕ) (segments : List (List ℕ)) : Type 0 where
  pub ordinary : what_asked server.limits (flat_bytes segments) ≡ Ordinary
  pub none : WantsNoMemory server.limits server.options total (unread_in segments)

-- a request of a row was answered by this instance of a server, with what is there to be copied out, or it was refused
abbrev pub RowOrNot : (old new : Instance) → (request : List ℕ) → (total : ℕ) → (number : ℤ) → (len : ℕ) → Type 0
RowOrNot old new request total number len =
    RowInC old.server request total number len (drop new.start new.room.items) new.shown new.server
    ⊎ Refused old.server request number len new.shown new.server
