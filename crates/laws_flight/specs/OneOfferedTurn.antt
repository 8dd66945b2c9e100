-- A request that was asked for its call, by both tables, and whose call was answered, as one turn.
use Rattle.std.specs.Prelude.{◌≡◌, ◌++◌, ℕ, List, [], length, Option, Some, None}
use Rattle.vfs_segments.specs.Written.{Written, Leaves}
use Rattle.vfs_files.specs.Calls.{Answer}
use Rattle.vfs_files.specs.Runs.{Event}
use Rattle.vfs_messages.specs.Rooms.{with_after}
use Rattle.vfs_grammar.specs.Ask.{ask}
use Rattle.vfs_grammar.specs.declared.limits.Limits.{Limits}
use Rattle.codec_calls.specs.declared.call.CallData.{CallData}
use Rattle.codec_calls.specs.declared.call.number.TheConstants as number
use Rattle.codec_calls.specs.declared.data.AnswerData.{AnswerData}
use Rattle.codec_calls.specs.declared.data.ItemData.{ItemData}
use Rattle.codec_encode.specs.Answering.{Answers}
use Rattle.codec_encode.specs.Kinds.{kind_told}
use Rattle.codec_encode.specs.Said.{IsSaid}
use Rattle.codec_encode.specs.Told.{AnswersEachCall, AnswersEachListing}
use Rattle.codec_encode.specs.declared.answered.Answered.{Answered}
use Rattle.codec_decode.specs.Asked.{IsAsked}
use Rattle.codec_decode.specs.declared.asked.Asked.TheVariants as asked
use Rattle.laws_flight.specs.OneTurn.{HappenedBetween}
use Rattle.codec_encode.specs.Fitting.{answer_offered}
use Rattle.codec_decode.specs.Further.{What, Ordinary, Short, Row, Unnamed, told_under, what_of}
use Rattle.laws_flight.specs.OfferedTurns.{IsOfferedTurn, OfferedTurn, as_create, row_kind}

-- the call of a TMPFILE, which was told as that of a CREATE
abbrev pub named_tmpfile : CallData → CallData
named_tmpfile told = record told { call = number.TMPFILE }

-- This was told of a request that asks this: the call of virtiofsd's table; or of a row; or the call of the CREATE,
-- under TMPFILE's number.
abbrev pub IsToldOffered : Limits → (options : ℕ) → (request : List ℕ) → What → (asked_in after : Written)
    → (told : CallData) → Type 0
IsToldOffered limits options request Ordinary asked_in after told =
    IsAsked limits options request asked_in asked.Call after told
IsToldOffered limits options request Short asked_in after told = ⊥
IsToldOffered limits options request (Row row) asked_in after told =
    told ≡ told_under options (length asked_in.left) row
IsToldOffered limits options request Unnamed asked_in after told =
    (created : CallData) × IsAsked limits options (as_create request) asked_in asked.Call after created
    × (told ≡ named_tmpfile created)

-- What happened between ask and answer, of a request that asks this: what happens by virtiofsd's table, of a TMPFILE
-- as of the CREATE; or the call of a row, with the answer that the data say.
abbrev pub HappenedOffered : Limits → (options : ℕ) → (request : List ℕ) → What → (told : CallData) → AnswerData
    → (text : List ℕ) → (items : List ItemData) → (room : List ℕ) → Answered → List Event
    → Option (CallData × Answer) → Type 0
HappenedOffered limits options request Ordinary told a text items room came events row =
    (row ≡ None) × HappenedBetween limits (ask limits options (length room) request) a text items room came events
HappenedOffered limits options request Short told a text items room came events row = ⊥
HappenedOffered limits options request (Row _) told a text items room came events row =
    (answer : Answer) × (row ≡ Some (told, answer)) × IsSaid a text room (row_kind told.answer) answer
    × (events ≡ []) × (came.given ≡ 0)
HappenedOffered limits options request Unnamed told a text items room came events row =
    (row ≡ None)
    × HappenedBetween limits (ask limits options (length room) (as_create request)) a text items room came events

-- the turn of these bytes, this room and these events
abbrev pub offered_turn : (offers : ℕ) → (request : List ℕ) → (old : Written) → List Event → Answered
    → (room_after : List ℕ) → Option (CallData × Answer) → OfferedTurn
offered_turn offers request old events came room_after row = record {
  offers = offers;
  turn = record {
    request = request;
    room = old.left;
    events = events;
    outcome = came.outcome;
    room_after = room_after;
  };
  row = row;
}

-- A turn by both tables, of these bytes and this room, under the options that the request was asked with.
pub record IsAnsweredOffered (limits : Limits) (offers options : ℕ) (request : List ℕ) (told : CallData)
    (a : AnswerData) (text : List ℕ) (items : List ItemData) (old : Written) (came : Answered) (new : Written)
    : Type 0 where
  pub events : List Event
  pub row : Option (CallData × Answer)
  pub room_after : List ℕ
  pub happened :
      HappenedOffered limits options request (what_of offers limits request) told a text items old.left came
      events row
  pub leaves : Leaves old room_after new
  pub turn :
      IsOfferedTurn limits options (offered_turn offers request old events came room_after row) came.options

-- A request was asked by both tables with this room, and a call told; and that was answered in as much room, of a
-- READ perhaps without the bytes after the first ones.
pub record IsAskedAndAnswered (limits : Limits) (offers options : ℕ) (request : List ℕ)
    (asked_in after : Written) (told : CallData) (a : AnswerData) (text : List ℕ) (items : List ItemData)
    (old : Written) (following : List ℕ) (came : Answered) (new : Written) : Type 0 where
  pub is_told : IsToldOffered limits options request (what_of offers limits request) asked_in after told
  pub same_room : length (old.left ++ following) ≡ length asked_in.left
  pub by_kind : Answers limits (kind_told told.answer told.size) told a text items old (Some came) new
  pub call : AnswersEachCall limits told a text old (Some came) new
  pub listing :
      AnswersEachListing limits told a items (with_after old following) (Some came) (with_after new following)

-- each such request is one turn, whose answer is that of the data, or EIO where a text doesn't fit
abbrev pub AreOneOfferedTurn : Type 0
AreOneOfferedTurn =
    (limits : Limits) (offers options : ℕ) (request : List ℕ) (asked_in after : Written) (told : CallData)
    (a : AnswerData) (text : List ℕ) (items : List ItemData) (old : Written) (following : List ℕ)
    (came : Answered) (new : Written)
    → IsAskedAndAnswered limits offers options request asked_in after told (answer_offered told a text) text
    items old following came new
    → IsAnsweredOffered limits offers options request told (answer_offered told a text) text items
    (with_after old following) came (with_after new following)
