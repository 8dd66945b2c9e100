-- A file system that notes the calls of another, as contracts see it.
use Rattle.std.specs.Prelude.{◌≡◌, ℕ, Bool, true, false, List, [], ◌∷◌, ◌++◌, Option, length, nat_lt, if◌then◌else◌}
use Rattle.vfs_files.specs.Values.{Item}
use Rattle.vfs_files.specs.Calls.{Call, Handed}
use Rattle.vfs_files.specs.Runs.{IsRun}
use Rattle.vfs_bench.specs.declared.note.Note.{Note}
use Rattle.vfs_bench.specs.Notes.{note_of_handed, notes_of}

-- the file system whose calls are noted, the notes so far, for how many there is room, and whether
-- a call found no place
pub record Recorded (S : Type 0) : Type 0 where
  pub inner : S
  pub notes : List Note
  pub places : ℕ
  pub missed : Bool

-- the notes with one more, where there is a place for it
abbrev pub with_note : ℕ → List Note → Note → List Note
with_note places notes note = if nat_lt (length notes) places then notes ++ note ∷ [] else notes

-- a note was added, or missed where there was no place, whatever happened to the inner file system
pub record IsNoted {S : Type 0} (old : Recorded S) (note : Note) (new : Recorded S) : Type 0 where
  pub places : new.places ≡ old.places
  pub notes : new.notes ≡ with_note old.places old.notes note
  pub missed : new.missed ≡ (if nat_lt (length old.notes) old.places then old.missed else true)

-- what the inner file system's relation allows, with the note of the call
abbrev pub recorded :
    {S I : Type 0} → (S → Call → Handed I → S → Type 0)
    → Recorded S → Call → Handed I → Recorded S → Type 0
recorded allows old call handed new =
    allows old.inner call handed new.inner × IsNoted old (note_of_handed call handed) new

-- where a run ends with no call missed, the new notes are those of its calls, in order
abbrev pub NotesTheCalls :
    {S I : Type 0} → (S → Call → Handed I → S → Type 0) → (I → Option Item → I → Type 0) → Type 0
NotesTheCalls allows gives =
    (it : _) (old : _) (events : _) (new : _)
    → IsRun (recorded allows) gives it old events new
    → new.missed ≡ false
    → new.notes ≡ old.notes ++ notes_of events
