-- A request that a server handled, with the state of its file system before and after.
use Rattle.std.specs.Prelude.{◌≡◌, length, ℕ, List, Option, None, Result}
use Rattle.vfs_segments.specs.Written.{Written, Leaves}
use Rattle.vfs_files.specs.Values.{Item}
use Rattle.vfs_files.specs.Calls.{Call, Handed}
use Rattle.vfs_files.specs.Runs.{Event, IsRun}
use Rattle.vfs_files.specs.Migrations.{MigrationCall, MigrationAnswer}
use Rattle.vfs_grammar.specs.Forms.{Lists}
use Rattle.vfs_grammar.specs.Listing.{Listing}
use Rattle.vfs_grammar.specs.Ask.{ask}
use Rattle.vfs_grammar.specs.Directories.{StopsForACause, ComesWhole, TakesFew}
use Rattle.vfs_grammar.specs.Reply.{Echo}
use Rattle.vfs_grammar.specs.Turn.{Turn, IsTurn}
use Rattle.vfs_grammar.specs.declared.error.Error.{Error}
pub use Rattle.vfs_server.specs.State.{ServerState}

-- a turn of this request, with these events: what a writer had as its room, and what it has there now
abbrev pub turn_over : (request : List ℕ) → (writer : Written) → (events : List Event)
    → Result ℕ Error → (room_after : List ℕ) → Turn
turn_over request writer events outcome room_after =
    record {
      request = request;
      room = writer.left;
      events = events;
      outcome = outcome;
      room_after = room_after;
    }

-- One step: a run of the file system from its state before to that after, whose events are those
-- of a turn of the request; the bytes that the writer had passed stay, and its room is as the
-- turn says.
pub record IsStep {S I : Type 0} (allows : S → Call → Handed I → S → Type 0)
    (gives : I → Option Item → I → Type 0) (old : ServerState S) (request : List ℕ)
    (writer : Written) (outcome : Result ℕ Error) (writer_after : Written) (new : ServerState S) : Type 0 where
  pub events : List Event
  pub room_after : List ℕ
  pub is_run : IsRun allows gives None old.fs events new.fs
  pub leaves : Leaves writer room_after writer_after
  pub turn :
      IsTurn old.limits old.options (turn_over request writer events outcome room_after) new.options
  pub same_limits : new.limits ≡ old.limits

-- A directory was read, for this request: a run of the file system, in which it stopped for a
-- cause, came back whole where nothing cut it short, and took few items.
pub record ReadsListing {S I : Type 0} (allows : S → Call → Handed I → S → Type 0)
    (gives : I → Option Item → I → Type 0) (listing : Listing) (unique : ℕ) (old : ServerState S)
    (request : List ℕ) (writer : Written) (outcome : Result ℕ Error) (writer_after : Written)
    (new : ServerState S) : Type 0 where
  pub events : List Event
  pub room_after : List ℕ
  pub is_run : IsRun allows gives None old.fs events new.fs
  pub leaves : Leaves writer room_after writer_after
  pub stops :
      StopsForACause listing unique (turn_over request writer events outcome room_after)
  pub whole : ComesWhole listing unique (turn_over request writer events outcome room_after)
  pub few : TakesFew listing (turn_over request writer events outcome room_after)

-- where the request asks for a directory, it was read so
abbrev pub ReadsDirectories : {S I : Type 0} → (S → Call → Handed I → S → Type 0)
    → (I → Option Item → I → Type 0) → (old : ServerState S) → (request : List ℕ)
    → (writer : Written) → Result ℕ Error → (writer_after : Written) → (new : ServerState S)
    → Type 0
ReadsDirectories allows gives old request writer outcome writer_after new =
    (echo : Echo) (listing : Listing)
    → ask old.limits old.options (length writer.left) request ≡ Lists echo listing
    → ReadsListing allows gives listing echo.unique old request writer outcome writer_after new

-- ---- no more is of the promise: the rest is for contracts of parts

-- The file system of a server was called so, as its own relation allows; the options and the limits
-- stay.
abbrev pub migrates_over : {S : Type 0} → (S → MigrationCall → MigrationAnswer → S → Type 0)
    → (old : ServerState S) → MigrationCall → MigrationAnswer → (new : ServerState S) → Type 0
migrates_over migrates old call answer new =
    migrates old.fs call answer new.fs
    × (new.options ≡ old.options) × (new.limits ≡ old.limits)
