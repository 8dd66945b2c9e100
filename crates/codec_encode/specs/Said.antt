-- What an answer as data says: the answer of the call, by its kind. Begin with `IsSaid`.
use Rattle.std.specs.Prelude.{◌≡◌, ◌≢◌, ◌⊎◌, ◌<◌, ◌≤◌, ◌+◌, ◌-◌, ◌^◌, ⊤, ℕ, pos, length, min, take, drop, bit_and, List, Option, Some, None, Result, Ok, Err}
use Rattle.vfs_flags.specs.Numbers.{eio, erange}
use Rattle.vfs_flags.specs.Flags.{known_fs_options, known_open_options}
use Rattle.vfs_wire.specs.Records.{out_header}
use Rattle.vfs_files.specs.Values.{entry_out_of, whole_seconds, nanoseconds_beyond}
use Rattle.vfs_files.specs.Calls.{Kind, Quiet, Told, Untold, Data, Agreements, Entries, TimedAttributes, Openings, Creations, Capacities, Texts, TextsOrCounts, Offsets, Writes, Faults, Answer, Done, Failed, Options, Found, Attributes, Put, Opened, Created, Statistics, Text, Count, Offset, Wrote}
use Rattle.codec_calls.specs.Values.{IsFaultOf, attr_of, entry_out_for, statistics_of, handle_of, most_nanoseconds}
use Rattle.codec_calls.specs.declared.data.AnswerData.{AnswerData}
use Rattle.vfs_grammar.specs.Records.{size_of}

-- that many bytes of data can be in the reply to a READ of this size, in a room of this length, which has the
-- reply's header too
pub record CanBeRead (size room_len count : ℕ) : Type 0 where
  pub asked_for : count ≤ size
  pub room_for : size_of out_header + count ≤ room_len
  pub short : count < 2 ^ 32 - 16

-- they can't
abbrev pub IsTooMuch : (size room_len count : ℕ) → Type 0
IsTooMuch size room_len count =
    (size < count) ⊎ (room_len < size_of out_header + count) ⊎ (2 ^ 32 - 16 ≤ count)

-- the fault that was answered
abbrev pub IsFailed : AnswerData → (fault : Option ℕ) → Type 0
IsFailed a fault = (a.error ≢ pos 0) × IsFaultOf a.error fault

-- The value of an answer to a call of this kind. The text is beside the answer, and the data of a READ
-- in the room, after the place of the reply's header.
abbrev pub IsValue : AnswerData → (text room : List ℕ) → Kind → Answer → Type 0
IsValue a text room Told Done = ⊤
IsValue a text room Untold Done = ⊤
IsValue a text room (Data size) (Put bytes) =
    CanBeRead size (length room) a.count × (bytes ≡ take a.count (drop (size_of out_header) room))
IsValue a text room Agreements (Options want) = want ≡ bit_and a.count known_fs_options
IsValue a text room Entries (Found entry) = entry_out_of entry ≡ entry_out_for a.entry
IsValue a text room TimedAttributes (Attributes attributes timeout) =
    (attributes ≡ attr_of a.entry.attr)
    × (whole_seconds timeout ≡ a.entry.attr_seconds)
    × (nanoseconds_beyond timeout ≡ min a.entry.attr_nanoseconds most_nanoseconds)
IsValue a text room Openings (Opened handle options) =
    (handle ≡ handle_of a) × (options ≡ bit_and a.open_flags known_open_options)
IsValue a text room Creations (Created entry handle options) =
    (entry_out_of entry ≡ entry_out_for a.entry)
    × (handle ≡ handle_of a) × (options ≡ bit_and a.open_flags known_open_options)
IsValue a text room Capacities (Statistics statistics) = statistics ≡ statistics_of a.statfs
IsValue a text room Texts (Text bytes) = bytes ≡ text
IsValue a text room TextsOrCounts (Text bytes) = (a.has_count ≡ 0) × (bytes ≡ text)
IsValue a text room TextsOrCounts (Count n) = (a.has_count ≢ 0) × (n ≡ a.count)
IsValue a text room Offsets (Offset n) = n ≡ a.count
IsValue a text room Writes (Wrote n) = n ≡ a.count
IsValue a text room _ _ = ⊥

-- the fault of a text that is too long for a reply
abbrev pub IsTooLong : (text : List ℕ) → (fault : Option ℕ) → Type 0
IsTooLong text fault = (fault ≡ Some erange) × (2 ^ 32 - 16 ≤ length text)

-- the fault of a count that has no place in a reply
abbrev pub IsUncounted : AnswerData → (fault : Option ℕ) → Type 0
IsUncounted a fault = (fault ≡ Some eio) × (2 ^ 32 ≤ a.count)

-- the fault that stands for a value which can't be
abbrev pub IsUnfit : AnswerData → (text room : List ℕ) → Kind → (fault : Option ℕ) → Type 0
IsUnfit a text room (Data size) fault = (fault ≡ Some eio) × IsTooMuch size (length room) a.count
IsUnfit a text room Texts fault = IsTooLong text fault
IsUnfit a text room TextsOrCounts fault =
    ((a.has_count ≡ 0) × IsTooLong text fault) ⊎ ((a.has_count ≢ 0) × IsUncounted a fault)
IsUnfit a text room Writes fault = IsUncounted a fault
IsUnfit a text room Faults fault = fault ≡ Some eio
IsUnfit a text room _ fault = ⊥

-- What a call of this kind is answered: nothing where there is nothing to answer; the fault that was
-- answered; else the value, or the fault that stands for it.
abbrev pub IsSaid : AnswerData → (text room : List ℕ) → Kind → Answer → Type 0
IsSaid a text room Quiet answer = answer ≡ Done
IsSaid a text room kind (Failed fault) =
    IsFailed a fault ⊎ ((a.error ≡ pos 0) × IsUnfit a text room kind fault)
IsSaid a text room kind answer = (a.error ≡ pos 0) × IsValue a text room kind answer

-- ---- no more is of the promise: the rest is for proofs, and for contracts of parts

-- the answer of a call that answers a text, where it is beside
abbrev pub text_said : Result (Unit {0}) (Option ℕ) → (text : List ℕ) → Answer
text_said (Ok _) text = Text text
text_said (Err fault) text = Failed fault

-- the answer of a call that answers a text, which is beside, or a count
abbrev pub value_said : Result (Option ℕ) (Option ℕ) → (text : List ℕ) → Answer
value_said (Ok None) text = Text text
value_said (Ok (Some count)) text = Count count
value_said (Err fault) text = Failed fault
