-- A request that was handled, with the state of the file system before and after.
use Rattle.std.specs.Prelude.{◌≡◌, length, ℕ, List, Option, None, Result}
use Rattle.vfs_flags.specs.declared.opcode.Opcode.{Opcode}
use Rattle.vfs_segments.specs.Written.{Written, Moves}
use Rattle.vfs_files.specs.Values.{Item}
use Rattle.vfs_files.specs.Calls.{Call, Handed, Plain, Counts, read_answer}
use Rattle.vfs_files.specs.Runs.{Event, IsRun}
use Rattle.vfs_grammar.specs.Forms.{Ask}
use Rattle.vfs_grammar.specs.Listing.{Listing}
use Rattle.vfs_grammar.specs.Ask.{form_of}
use Rattle.vfs_grammar.specs.Words.{ask_opcode, IsRead}
use Rattle.vfs_messages.specs.Rooms.{Replies}
use Rattle.vfs_messages.specs.declared.parts.Request.{Request}
use Rattle.vfs_server.specs.Delivery.{CallsAndGivesBack}
use Rattle.vfs_grammar.specs.Witnesses.{Witness, FollowsFor}
use Rattle.vfs_grammar.specs.declared.error.Error.{Error}
use Rattle.vfs_server.specs.MemoryByPieces.{MayWantFor}
use Rattle.vfs_server.specs.State.{ServerState}

module _ {S I : Type 0} (allows : S → Call → Handed I → S → Type 0)
    (gives : I → Option Item → I → Type 0) where
  -- a directory was read: a run leads from one state to the other, in whose events it was
  pub record Reads (listing : Listing) (old : S) (records : List ℕ) (answer : Result ℕ (Option ℕ))
      (new : S) : Type 0 where
    pub events : List Event
    pub is_run : IsRun allows gives None old events new
    pub is_read : IsRead listing events records answer

  -- what a server and a writer, both seen before and after, tell of a request: by the states of
  -- the file system, and for a directory that was read by a run between them; and where there was
  -- no memory, that it was wanted
  abbrev pub server_tells : (wanted : Type 0) → (old : ServerState S) → (writer : Written)
      → Result ℕ Error → (writer_after : Written) → (new : ServerState S) → Witness
  server_tells wanted old writer outcome writer_after new = record {
    room_len = length writer.left;
    no_call = new.fs ≡ old.fs;
    called = λ call answer ctx back. CallsAndGivesBack allows call answer ctx back old.fs new.fs;
    listed = λ listing records answer. Reads listing old.fs records answer new.fs;
    replied = λ reply. Replies reply writer outcome writer_after;
    no_memory = (new.fs ≡ old.fs) × wanted;
  }

  -- a request that asks this, for which memory may be wanted so, was handled
  abbrev pub Handles : (wanted : Type 0) → Ask → (old : ServerState S) → (writer : Written)
      → Result ℕ Error → (writer_after : Written) → (new : ServerState S) → Type 0
  Handles wanted a old writer outcome writer_after new =
      FollowsFor (server_tells wanted old writer outcome writer_after new)
      old.limits old.options a new.options
      × (new.limits ≡ old.limits)

  -- a request of this opcode was handled (it is opened where a handler is proved, and not where
  -- one is chosen)
  unfoldable pub Serves : Opcode → (request : Request) → (old : ServerState S) → (writer : Written)
      → Result ℕ Error → (writer_after : Written) → (new : ServerState S) → Type 0
  Serves opcode request old writer outcome writer_after new =
      let header = request.header.now in
      let reader = request.r.now in
      Handles
      (MayWantFor header reader.pieces
      (form_of old.limits old.options (length writer.left) header opcode))
      (ask_opcode old.limits old.options (length writer.left) opcode header reader.left)
      old writer outcome writer_after new

-- A READ was passed on: the file system was called so, with a writer lent to it, put some bytes
-- into the writer, and gave this answer.
pub record ReadsInto {S I : Type 0} (allows : S → Call → Handed I → S → Type 0) (call : Call)
    (size : ℕ) (old : ServerState S) (writer : Written) (answer : Result ℕ (Option ℕ))
    (writer_after : Written) (new : ServerState S) : Type 0 where
  pub bytes : List ℕ
  pub moves : Moves writer bytes writer_after
  pub counts : Counts answer bytes size
  pub allowed : allows old.fs call (Plain (read_answer answer bytes)) new.fs
  pub same_options : new.options ≡ old.options
  pub same_limits : new.limits ≡ old.limits
