-- Notes of calls.
use Rattle.std.specs.Prelude.{ℕ, List, [], ◌∷◌, unwrap_or, length}
use Rattle.vfs_files.specs.Calls.{Call, Forget, BatchForget, kind_of, opcode_number_of, first_node_of}
use Rattle.vfs_files.specs.Answers.{Answer, Done, Failed, Found, Created, Handed, Plain, Iterator, Kind, Quiet}
use Rattle.vfs_files.specs.Runs.{Event, Called, OpenedDirectory, Taken}
use Rattle.vfs_bench.specs.declared.note.Note.{Note}
use Rattle.vfs_bench.specs.declared.note.NoteKind.{NoteKind}
use Rattle.vfs_bench.specs.declared.note.NoteKind.TheVariants as kind

-- how a call that answers ended
abbrev pub kind_said : Answer → NoteKind
kind_said (Failed fault) = kind.Fault
kind_said _ = kind.Ok

-- the number that an answer is noted by: the node of an entry, or a fault's number, and else 0
abbrev pub value_said : Answer → ℕ
value_said (Found entry) = entry.inode
value_said (Created entry handle options) = entry.inode
value_said (Failed fault) = unwrap_or fault 0
value_said _ = 0

-- the note of a call of this number that answers, about this node
abbrev pub asked : ℕ → ℕ → Answer → Note
asked call node answer = record {
  call = call;
  node = node;
  count = 0;
  kind = kind_said answer;
  value = value_said answer;
}

-- the note of a call of this number that has no answer, about this node, with a count
abbrev pub unanswered : ℕ → ℕ → ℕ → Note
unanswered call node count = record {
  call = call;
  node = node;
  count = count;
  kind = kind.Nothing;
  value = 0;
}

-- how a call with an answer of this kind ended
abbrev pub kind_noted : Kind → Answer → NoteKind
kind_noted Quiet answer = kind.Nothing
kind_noted _ answer = kind_said answer

-- the number that an answer of this kind is noted by
abbrev pub value_noted : Kind → Answer → ℕ
value_noted Quiet answer = 0
value_noted _ answer = value_said answer

-- how many lookups a `forget` takes back, or how many pairs a `batch_forget` has, else 0
abbrev pub count_noted : Call → ℕ
count_noted (Forget ctx inode count) = count
count_noted (BatchForget ctx requests) = length requests
count_noted _ = 0

-- the note of each call with its answer: the number of its opcode, and its first node
abbrev pub note_of : Call → Answer → Note
note_of call answer = record {
  call = opcode_number_of call;
  node = first_node_of call;
  count = count_noted call;
  kind = kind_noted (kind_of call) answer;
  value = value_noted (kind_of call) answer;
}

-- the note of a call with what it handed back: an iterator says that it was done
abbrev pub note_of_handed : {I : Type 0} → Call → Handed I → Note
note_of_handed call (Plain answer) = note_of call answer
note_of_handed call (Iterator it) = note_of call Done

-- the notes of the calls among these events, in order
abbrev pub notes_of : List Event → List Note
notes_of [] = []
notes_of (Called call answer ∷ events) = note_of call answer ∷ notes_of events
notes_of (OpenedDirectory call ∷ events) = note_of call Done ∷ notes_of events
notes_of (Taken item ∷ events) = notes_of events
