-- Answers as values of the code: which answer each is, and of which kinds. Of calls by value Calls says it.
use Rattle.std.specs.Prelude.{⊤, ℕ, List, Option, Result, Ok, Err}
use Rattle.vfs_flags.specs.Flags.{fs_options_bits, open_options_bits}
use Rattle.vfs_files.specs.Answers.{Answer, Done, Failed, Options, Found, Attributes, Opened, Created, Statistics, Text, Count, Offset, Wrote, FitsText, Kind, Quiet, Told, Untold, Data, Agreements, Entries, TimedAttributes, Openings, Creations, Capacities, Texts, TextsOrCounts, Offsets, Writes, Iterators, Faults}
use Rattle.vfs_files.specs.Calls.{Call, Read, Write}
pub use Rattle.vfs_files.specs.Calls.{call_of}
use Rattle.vfs_files.specs.declared.call_value.AnswerKind.{AnswerKind}
use Rattle.vfs_files.specs.declared.call_value.AnswerKind.TheVariants as said
use Rattle.vfs_files.specs.declared.call_value.Given.{Given}
use Rattle.vfs_files.specs.declared.call_value.ReadValue.{ReadValue}
use Rattle.vfs_files.specs.declared.call_value.WriteValue.{WriteValue}
use Rattle.vfs_files.specs.declared.call_value.Given.TheVariants as given

-- the call of a READ whose writer has `room` bytes
abbrev pub read_of : ReadValue → (room : ℕ) → Call
read_of r room = Read r.ctx r.inode r.handle room r.size r.offset r.lock_owner r.flags

-- the call of a WRITE whose reader has `left`
abbrev pub write_of : WriteValue → (left : List ℕ) → Call
write_of w left = Write w.ctx w.inode w.handle left w.size w.offset w.lock_owner w.delayed_write
    w.kill_priv w.flags

-- the answer that is given
abbrev pub answer_of : Result Given (Option ℕ) → Answer
answer_of (Ok given.Done) = Done
answer_of (Ok (given.Options want)) = Options (fs_options_bits want)
answer_of (Ok (given.Found entry)) = Found entry
answer_of (Ok (given.Attributes attributes timeout)) = Attributes attributes timeout
answer_of (Ok (given.Opened handle options)) = Opened handle (open_options_bits options)
answer_of (Ok (given.Created entry handle options)) =
    Created entry handle (open_options_bits options)
answer_of (Ok (given.Statistics statistics)) = Statistics statistics
answer_of (Ok (given.Text text)) = Text text.items
answer_of (Ok (given.Count count)) = Count count
answer_of (Ok (given.Offset offset)) = Offset offset
answer_of (Ok (given.Wrote count)) = Wrote count
answer_of (Err fault) = Failed fault

-- that it was done, and no fault
abbrev pub IsQuiet : Result Given (Option ℕ) → Type 0
IsQuiet (Ok given.Done) = ⊤
IsQuiet _ = ⊥

-- that it was done, or a fault
abbrev pub IsDone : Result Given (Option ℕ) → Type 0
IsDone (Ok given.Done) = ⊤
IsDone (Ok _) = ⊥
IsDone (Err _) = ⊤

-- options, or a fault
abbrev pub IsOptions : Result Given (Option ℕ) → Type 0
IsOptions (Ok (given.Options _)) = ⊤
IsOptions (Ok _) = ⊥
IsOptions (Err _) = ⊤

-- an entry, or a fault
abbrev pub IsEntry : Result Given (Option ℕ) → Type 0
IsEntry (Ok (given.Found _)) = ⊤
IsEntry (Ok _) = ⊥
IsEntry (Err _) = ⊤

-- attributes, or a fault
abbrev pub IsAttributes : Result Given (Option ℕ) → Type 0
IsAttributes (Ok (given.Attributes _ _)) = ⊤
IsAttributes (Ok _) = ⊥
IsAttributes (Err _) = ⊤

-- a handle, if there is one, or a fault
abbrev pub IsOpening : Result Given (Option ℕ) → Type 0
IsOpening (Ok (given.Opened _ _)) = ⊤
IsOpening (Ok _) = ⊥
IsOpening (Err _) = ⊤

-- an entry and a handle, if there is one, or a fault
abbrev pub IsCreation : Result Given (Option ℕ) → Type 0
IsCreation (Ok (given.Created _ _ _)) = ⊤
IsCreation (Ok _) = ⊥
IsCreation (Err _) = ⊤

-- what a file system holds, or a fault
abbrev pub IsStatistics : Result Given (Option ℕ) → Type 0
IsStatistics (Ok (given.Statistics _)) = ⊤
IsStatistics (Ok _) = ⊥
IsStatistics (Err _) = ⊤

-- a place in a file, or a fault
abbrev pub IsOffset : Result Given (Option ℕ) → Type 0
IsOffset (Ok (given.Offset _)) = ⊤
IsOffset (Ok _) = ⊥
IsOffset (Err _) = ⊤

-- how many bytes were copied, or a fault
abbrev pub IsWrote : Result Given (Option ℕ) → Type 0
IsWrote (Ok (given.Wrote _)) = ⊤
IsWrote (Ok _) = ⊥
IsWrote (Err _) = ⊤

-- a text that leaves room for a header, or a fault
abbrev pub IsText : Result Given (Option ℕ) → Type 0
IsText (Ok (given.Text text)) = FitsText text.items
IsText (Ok _) = ⊥
IsText (Err _) = ⊤

-- such a text, how long one is, or a fault
abbrev pub IsTextOrCount : Result Given (Option ℕ) → Type 0
IsTextOrCount (Ok (given.Text text)) = FitsText text.items
IsTextOrCount (Ok (given.Count _)) = ⊤
IsTextOrCount (Ok _) = ⊥
IsTextOrCount (Err _) = ⊤

-- a fault
abbrev pub IsRefused : Result Given (Option ℕ) → Type 0
IsRefused (Ok _) = ⊥
IsRefused (Err _) = ⊤

-- an answer of this kind; those of reading and of listing are not among them
abbrev pub IsOfKind : Kind → Result Given (Option ℕ) → Type 0
IsOfKind Quiet = IsQuiet
IsOfKind Told = IsDone
IsOfKind Untold = IsDone
IsOfKind (Data size) = IsRefused
IsOfKind Agreements = IsOptions
IsOfKind Entries = IsEntry
IsOfKind TimedAttributes = IsAttributes
IsOfKind Openings = IsOpening
IsOfKind Creations = IsCreation
IsOfKind Capacities = IsStatistics
IsOfKind Texts = IsText
IsOfKind TextsOrCounts = IsTextOrCount
IsOfKind Offsets = IsOffset
IsOfKind Writes = IsWrote
IsOfKind Iterators = IsRefused
IsOfKind Faults = IsRefused

-- the kind that is said
abbrev pub kind_as : AnswerKind → Kind
kind_as said.Quiet = Quiet
kind_as said.Told = Told
kind_as said.Untold = Untold
kind_as said.Agreements = Agreements
kind_as said.Entries = Entries
kind_as said.TimedAttributes = TimedAttributes
kind_as said.Openings = Openings
kind_as said.Creations = Creations
kind_as said.Capacities = Capacities
kind_as said.Texts = Texts
kind_as said.TextsOrCounts = TextsOrCounts
kind_as said.Offsets = Offsets
kind_as said.Writes = Writes
kind_as said.Faults = Faults
