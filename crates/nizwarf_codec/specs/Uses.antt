-- What small callers of the library say.
use Rattle.std.specs.Prelude.{◌≡◌, ◌+◌, ℕ, ℤ, List, [], ◌∷◌, length, Some}
use Rattle.vfs_segments.specs.Written.{Written}
use Rattle.vfs_messages.specs.Rooms.{with_after}
use Rattle.vfs_grammar.specs.Ask.{ask}
use Rattle.vfs_grammar.specs.Samples.{lookup_of_a}
use Rattle.vfs_grammar.specs.Turn.{Turn, IsTurn}
use Rattle.codec_calls.specs.declared.call.CallData.{CallData}
use Rattle.codec_calls.specs.declared.call.number.TheConstants.{LOOKUP}
use Rattle.codec_calls.specs.declared.call.kind.TheConstants.{ENTRY}
use Rattle.codec_calls.specs.declared.data.AnswerData.{AnswerData}
use Rattle.codec_calls.specs.declared.data.ItemData.{ItemData}
use Rattle.vfs_grammar.specs.declared.limits.Limits.{Limits}
use Rattle.codec_decode.specs.Asked.{IsNameIn}
use Rattle.codec_encode.specs.declared.answered.Answered.{Answered}
use Rattle.laws_flight.specs.OneTurn.{IsAnsweredTurn}
use Rattle.c_rooms.specs.Codes.{outcome_code, length_of}
use Rattle.nizwarf_codec.specs.Answering.{IsAnswerTold}
use Rattle.nizwarf_codec.specs.Turns.{Happened}
use Rattle.nizwarf_codec.specs.declared.data.ToldData.{ToldData}

abbrev pub usual_limits : Limits
usual_limits = record { page_size = 4096; max_buffer = 1048576 }

-- the call that request 9 asks for, a LOOKUP of the name `a` in node 1, with 4096 bytes of room
pub record IsLookupOfA (call : CallData) : Type 0 where
  pub unique : call.unique ≡ 9
  pub readahead : call.readahead ≡ 0
  pub options : call.options ≡ 0
  pub room : call.room ≡ 4096
  pub number : call.call ≡ LOOKUP
  pub kind : call.answer ≡ ENTRY
  pub size : call.size ≡ 0
  pub node : call.node ≡ 1
  pub name : IsNameIn lookup_of_a call.name (0x61 ∷ [])

-- the reply to request 9 that says ENOENT: 16 bytes, and the error number 2 negated
abbrev pub no_such_name : List ℕ
no_such_name =
    0x10 ∷ 0 ∷ 0 ∷ 0 ∷ 0xfe ∷ 0xff ∷ 0xff ∷ 0xff ∷ 9 ∷ 0 ∷ 0 ∷ 0 ∷ 0 ∷ 0 ∷ 0 ∷ 0 ∷ []

-- A request with that much room was a turn of the grammar in which the file system gave this answer, or its directory was
-- read from these items; and the outcome and the options were told so.
pub record IsTurnInC (limits : Limits) (options : ℕ) (request : List ℕ) (room : ℕ) (a : AnswerData)
    (text : List ℕ) (items : List ItemData) (code : ℤ) (told : ToldData) : Type 0 where
  pub turn : Turn
  pub of_request : turn.request ≡ request
  pub in_room : length turn.room ≡ room
  pub happened : Happened a text items (ask limits options room request) turn.room told turn.events
  pub is_turn : IsTurn limits options turn told.options
  pub code_is : code ≡ outcome_code turn.outcome
  pub len : told.len ≡ length_of turn.outcome

-- A request with that much room was one turn of the grammar, with this answer to the call that was told, whatever stood
-- in the room after the first bytes that were put; and what came of it was told so.
pub record IsOneTurn (limits : Limits) (options : ℕ) (request : List ℕ) (room : ℕ) (call : CallData)
    (a : AnswerData) (text : List ℕ) (items : List ItemData) (code : ℤ) (told told_after : ToldData)
    (shown : List ℕ) : Type 0 where
  pub before : Written
  pub came : Answered
  pub after : Written
  pub turn : (following : List ℕ) → length before.left + length following ≡ room
      → IsAnsweredTurn limits options request a text items (with_after before following) came
      (with_after after following)
  pub passed_on : IsAnswerTold (Some came) call before after code told told_after shown
