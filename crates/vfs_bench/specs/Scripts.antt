-- What the tests' file system may do.
use Rattle.std.specs.Prelude.{◌≡◌, ◌==◌, ◌≤◌, ◌<◌, ◌+◌, ◌-◌, ◌^◌, ◌⊎◌, ℕ, List, length, min, replicate, Option, Some, None, Result, Ok, Err, Bool, true, false, if◌then◌else◌}
use Rattle.vfs_segments.specs.declared.file.WritevFlags.{WritevFlags}
use Rattle.vfs_files.specs.Answers.{Answer, Done, Failed, Text, Handed, Plain, Iterator, Kind, Quiet, Agreements, Entries, TimedAttributes, Openings, Creations, Capacities, Texts, TextsOrCounts, Offsets, Writes, Faults, init_answer, entry_answer, attr_answer, done_answer, opened_answer, created_answer, statistics_answer, text_answer, getxattr_answer, listxattr_answer, offset_answer, written_answer, read_answer}
use Rattle.vfs_files.specs.Calls.{Call, Read, Write, Readdir, Listxattr, kind_of, no_such_call, out_of_memory}
use Rattle.vfs_files.specs.Transfers.{Transfers, reads_of, writes_of}
use Rattle.vfs_bench.specs.Directories.{Reading}
use Rattle.vfs_bench.specs.declared.file.ScriptFile.{ScriptFile}
use Rattle.vfs_bench.specs.declared.script.Script.{Script}

-- a file that was called once more
abbrev pub called : ScriptFile → ScriptFile
called file = record file { calls = min (file.calls + 1) (2 ^ 64 - 1) }

-- whether a call of this number is to fail
abbrev pub fails : Option ℕ → ℕ → Bool
fails None call = false
fails (Some failing) call = failing == call

-- what a file answers that is to move that many bytes: its fault at the call that is to fail, else as
-- many as it moves a call at most
abbrev pub script_answer : ScriptFile → ℕ → Result ℕ (Option ℕ)
script_answer file len =
    if fails file.fails_at (called file).calls then Err file.fault else Ok (min len file.most)

-- how many bytes that is
abbrev pub count_of : Result ℕ (Option ℕ) → ℕ
count_of (Ok count) = count
count_of (Err fault) = 0

-- a read puts as many bytes, each of them the same
pub record ReadsScript
    (old : ScriptFile) (off room : ℕ) (answer : Result ℕ (Option ℕ)) (moved : List ℕ)
    (new : ScriptFile) : Type 0 where
  pub answered : answer ≡ script_answer old room
  pub bytes : moved ≡ replicate (count_of answer) old.byte
  pub counted : new ≡ called old

-- a write takes as many, and lets them go
pub record WritesScript
    (old : ScriptFile) (bytes : List ℕ) (off : ℕ) (flags : Option WritevFlags)
    (answer : Result ℕ (Option ℕ)) (new : ScriptFile) : Type 0 where
  pub answered : answer ≡ script_answer old (length bytes)
  pub counted : new ≡ called old

-- what the maker of a script set for the answers of a kind, of calls that move no bytes and read no
-- directory: one for all that say only whether they were done; of texts that may be lengths the
-- names of extended attributes, where those are asked for, and else the value of one
abbrev pub said_by : Script → Kind → (lists : Bool) → Answer
said_by script Quiet _ = Done
said_by script Agreements _ = init_answer script.options
said_by script Entries _ = entry_answer script.entry
said_by script TimedAttributes _ = attr_answer script.attributes
said_by script Openings _ = opened_answer (λ handle. handle) script.opening
said_by script Creations _ = created_answer (λ handle. handle) script.creation
said_by script Capacities _ = statistics_answer script.statistics
said_by script Texts _ = text_answer script.text
said_by script TextsOrCounts true = listxattr_answer script.names
said_by script TextsOrCounts false = getxattr_answer script.value
said_by script Offsets _ = offset_answer script.offset
said_by script Writes _ = written_answer script.written
said_by script Faults _ = Failed script.tmpfile
said_by script _ _ = done_answer script.done

-- whether a call asks for the names of extended attributes
abbrev pub lists_names : Call → Bool
lists_names (Listxattr _ _ _) = true
lists_names _ = false

-- what was set for a call
abbrev pub said : Script → Call → Answer
said script call = said_by script (kind_of call) (lists_names call)

-- the fault of a text that is too long for a reply: ERANGE
abbrev pub too_long : Option ℕ
too_long = Some 34

-- whether an answer of a kind is a text, which is copied
abbrev pub tells_text : Kind → Bool
tells_text Texts = true
tells_text TextsOrCounts = true
tells_text _ = false

-- what may be handed back where this text was set: just that, or ENOMEM where there is no memory
-- for a copy; and of one that is too long for a reply ERANGE. A fault or a length is handed back
abbrev pub MayCopy : Answer → Handed Reading → Type 0
MayCopy (Text bytes) handed =
    (length bytes < 2 ^ 32 - 16
    → (handed ≡ Plain (Text bytes)) ⊎ (handed ≡ Plain (Failed out_of_memory)))
    × (2 ^ 32 - 16 ≤ length bytes → handed ≡ Plain (Failed too_long))
MayCopy set handed = handed ≡ Plain set

-- what may be handed back where this was set: just that, or, where the first argument says that
-- texts are copied, a copy
abbrev pub MayTell : Bool → Answer → Handed Reading → Type 0
MayTell false set handed = handed ≡ Plain set
MayTell true set handed = MayCopy set handed

-- what may be handed back where this directory or fault was set: a reading of it from the first
-- item on, or ENOMEM where there is no memory for one; or the fault
abbrev pub MayOpen : Result Reading (Option ℕ) → Handed Reading → Type 0
MayOpen (Ok directory) handed =
    (handed ≡ Iterator directory) ⊎ (handed ≡ Plain (Failed out_of_memory))
MayOpen (Err fault) handed = handed ≡ Plain (Failed fault)

-- READ of a script's file is one transfer out of it, of no more than a reply can count; where
-- there is no file it is not served
abbrev pub ReadsFile : Option ScriptFile → (room size offset : ℕ) → Handed Reading
    → Option ScriptFile → Type 0
ReadsFile None room size offset handed new = (handed ≡ Plain no_such_call) × (new ≡ None)
ReadsFile (Some file) room size offset handed new =
    (bytes : List ℕ) × (result : Result ℕ (Option ℕ)) × (after : ScriptFile)
    × (handed ≡ Plain (read_answer result bytes)) × (new ≡ Some after)
    × Transfers (reads_of ReadsScript) (min size (2 ^ 32 - 17)) room offset file bytes result after

-- WRITE to a script's file is one transfer of these bytes into it; where there is no file it is
-- not served
abbrev pub WritesFile : Option ScriptFile → List ℕ → (size offset : ℕ) → Handed Reading
    → Option ScriptFile → Type 0
WritesFile None bytes size offset handed new = (handed ≡ Plain no_such_call) × (new ≡ None)
WritesFile (Some file) bytes size offset handed new =
    (moved : List ℕ) × (result : Result ℕ (Option ℕ)) × (after : ScriptFile)
    × (handed ≡ Plain (written_answer result)) × (new ≡ Some after)
    × Transfers (writes_of WritesScript bytes None) size (length bytes) offset file moved result after

-- each call answers what the script's maker set, and the script stays as it was, but for its file,
-- of which the calls are counted
abbrev pub Plays : Script → Call → Handed Reading → Script → Type 0
Plays old (Readdir _ _ _ _ _) handed new = MayOpen old.directory handed × (new ≡ old)
Plays old (Read _ _ _ room size offset _ _) handed new =
    ReadsFile old.file room size offset handed new.file
    × (new ≡ record old { file = new.file })
Plays old (Write _ _ _ bytes size offset _ _ _ _) handed new =
    WritesFile old.file bytes size offset handed new.file
    × (new ≡ record old { file = new.file })
Plays old call handed new = MayTell (tells_text (kind_of call)) (said old call) handed × (new ≡ old)
