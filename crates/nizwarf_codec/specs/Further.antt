-- What C is told of a request that is asked by both tables.
use Rattle.std.specs.Prelude.{◌≡◌, ⊤, if◌then◌else◌, true, false, Bool, ℕ, ℤ, pos, List, [], Option, Err}
use Rattle.std.specs.Ordering.{int_eq}
use Rattle.vfs_flags.specs.Numbers.{eio}
use Rattle.vfs_segments.specs.Unread.{Unread}
use Rattle.vfs_grammar.specs.Ask.{ask}
use Rattle.vfs_grammar.specs.declared.error.Error.TheVariants.{DecodeMessage}
use Rattle.vfs_grammar.specs.declared.limits.Limits.{Limits}
use Rattle.codec_calls.specs.Shapes.{nothing}
use Rattle.codec_calls.specs.declared.call.CallData.{CallData}
use Rattle.codec_calls.specs.declared.data.AnswerData.{AnswerData}
use Rattle.codec_calls.specs.declared.call.number.TheConstants as number
use Rattle.codec_decode.specs.Memory.{MayWant}
use Rattle.codec_decode.specs.WithOpcode.{unread_with_opcode}
use Rattle.codec_decode.specs.Further.{What, Ordinary, Short, Row, Unnamed, told_under}
use Rattle.laws_flight.specs.OneOfferedTurn.{named_tmpfile}
use Rattle.laws_flight.specs.OfferedTurns.{as_create}
use Rattle.c_rooms.specs.Codes.{is_asked, outcome_code}
use Rattle.nizwarf_codec.specs.Asking.{AsksOrNot, finished}
use Rattle.nizwarf_codec.specs.Checking.{Checks}
use Rattle.nizwarf_codec.specs.Kept.{HoldsAnswer, HoldsFor, TellsOrNot}
use Rattle.nizwarf_codec.specs.declared.data.ToldData.{ToldData}
use Rattle.nizwarf_codec.specs.declared.memory.Memory.{Memory}

-- the bytes of a request that is asked as a CREATE, or as it is
abbrev pub bytes_as : (create : Bool) → (request : List ℕ) → List ℕ
bytes_as true q = as_create q
bytes_as false q = q

-- what a reader has left of it
abbrev pub unread_as : (create : Bool) → Unread → Unread
unread_as true u = unread_with_opcode number.CREATE u
unread_as false u = u

-- the call of a CREATE that was told, under TMPFILE's number; where none was told, what is there stays
abbrev pub named : (code : ℤ) → CallData → CallData
named code call = if int_eq code is_asked then named_tmpfile call else call

-- What is told of a request that asks this: what is told by virtiofsd's table; or that it is refused; or the call of a
-- row; or what is told of the CREATE, whose call is TMPFILE's.
abbrev pub AsksOffered : Limits → (options : ℕ) → (request : List ℕ) → (room : ℕ) → What → (code : ℤ)
    → (call_after : CallData) → (told told_after : ToldData) → (shown : List ℕ) → Type 0
AsksOffered limits options q room Ordinary code call_after told told_after shown =
    AsksOrNot limits options q room code call_after told told_after shown
AsksOffered limits options q room Short code call_after told told_after shown =
    (code ≡ outcome_code (Err DecodeMessage)) × (call_after ≡ nothing)
    × (told_after ≡ finished (Err DecodeMessage) 0 told) × (shown ≡ [])
AsksOffered limits options q room (Row row) code call_after told told_after shown =
    TellsOrNot code (told_under options room row) call_after ⊤ × (told_after ≡ told) × (shown ≡ [])
AsksOffered limits options q room Unnamed code call_after told told_after shown =
    (created : CallData)
    × AsksOrNot limits options (as_create q) room code created told told_after shown
    × (call_after ≡ named code created)

-- a slot has memory for what comes of a request that asks this
abbrev pub HoldsOffered : Limits → (options : ℕ) → (request : List ℕ) → (room : ℕ) → What → Option Memory → Type 0
HoldsOffered limits options q room Ordinary slot = HoldsFor room (ask limits options room q) slot
HoldsOffered limits options q room Short slot = ⊤
HoldsOffered limits options q room (Row row) slot = HoldsAnswer (told_under options room row) slot
HoldsOffered limits options q room Unnamed slot = HoldsFor room (ask limits options room (as_create q)) slot

-- memory besides may be wanted for a request that asks this: for none of a row
abbrev pub MayWantOffered : Limits → (options room : ℕ) → Unread → What → Type 0
MayWantOffered limits options room u Ordinary = MayWant limits options room u
MayWantOffered limits options room u Short = ⊥
MayWantOffered limits options room u (Row row) = ⊥
MayWantOffered limits options room u Unnamed =
    MayWant limits options room (unread_with_opcode number.CREATE u)

-- what is said of a request in one piece that asks this, without a reply
abbrev pub ChecksOffered : Limits → (options : ℕ) → (request : List ℕ) → (room : ℕ) → What → (code : ℤ)
    → (call : CallData) → (interrupts : ℕ) → Type 0
ChecksOffered limits options q room Ordinary code call interrupts =
    Checks limits options q room code call interrupts
ChecksOffered limits options q room Short code call interrupts =
    (code ≡ outcome_code (Err DecodeMessage)) × (call ≡ nothing) × (interrupts ≡ 0)
ChecksOffered limits options q room (Row row) code call interrupts =
    (code ≡ is_asked) × (call ≡ told_under options room row) × (interrupts ≡ 0)
ChecksOffered limits options q room Unnamed code call interrupts =
    (created : CallData) × Checks limits options (as_create q) room code created interrupts
    × (call ≡ named code created)

-- ---- of small callers

-- an answer with the error EIO
abbrev pub with_eio : AnswerData → AnswerData
with_eio a = record a { error = pos eio }
