-- From what ask and answer tell, by both tables, to the turn that both are.
use Rattle.std.proofs.Common.{◌≡◌, ◌+◌, ◌++◌, ◌∙◌, ℕ, List, [], length, Option, Some, None, refl, ap, sym, subst, length-append}
use Rattle.vfs_segments.specs.Written.{Written, Leaves}
use Rattle.vfs_files.specs.Calls.{Answer, Kind, Told, Texts, Offsets, Writes, Quiet, IsAnswer}
use Rattle.vfs_files.specs.Runs.{Event}
use Rattle.vfs_messages.specs.Rooms.{Replies, with_after}
use Rattle.vfs_wire.specs.Records.{in_header}
use Rattle.vfs_grammar.specs.Reply.{reply_of}
use Rattle.vfs_grammar.specs.Records.{record_of}
use Rattle.vfs_grammar.specs.Turn.{node_answered}
use Rattle.vfs_grammar.specs.declared.limits.Limits.{Limits}
use Rattle.codec_calls.specs.declared.call.CallData.{CallData}
use Rattle.codec_calls.specs.declared.call.kind.TheConstants as kind
use Rattle.codec_calls.specs.declared.call.number.TheConstants as number
use Rattle.codec_calls.specs.declared.data.AnswerData.{AnswerData}
use Rattle.codec_calls.specs.declared.data.ItemData.{ItemData}
use Rattle.codec_encode.specs.Answering.{Answers, IsAnswered, echo_told, options_told}
use Rattle.codec_encode.specs.Kinds.{kind_told}
use Rattle.codec_encode.specs.Said.{IsSaid}
use Rattle.codec_encode.specs.Told.{AnswersEachCall, AnswersEachListing}
use Rattle.codec_encode.specs.declared.answered.Answered.{Answered}
use Rattle.codec_encode.proofs.Telling.{each_call}
use Rattle.laws_flight.proofs.OneTurn.{are_one_turn, came_back}
use Rattle.codec_encode.specs.Fitting.{IsFit, answer_offered}
use Rattle.codec_decode.specs.Further.{What, Ordinary, Short, Row, Unnamed, ioctl_told, lock_told, statx_told, told_under, what_of}
use Rattle.laws_flight.specs.OneOfferedTurn.{AreOneOfferedTurn, HappenedOffered, IsToldOffered, named_tmpfile, offered_turn}
use Rattle.laws_flight.specs.OfferedTurns.{FollowsOffered, as_create, row_kind}
use Rattle.laws_flight.proofs.Creating.{renamed, told_created}
use Rattle.laws_flight.proofs.Rows.{OfRow, OfEachRow, of_what}
use Rattle.codec_encode.proofs.Texts.{said_fits}

-- ---- rows

-- a call of a row with this kind of answer was answered
record IsRowAnswered (limits : Limits) (told : CallData) (kind : Kind) (a : AnswerData) (text : List ℕ) (old : Written)
    (came : Answered) (new : Written) : Type 0 where
  answer : Answer
  said : IsSaid a text old.left kind answer
  fits : IsAnswer kind answer
  fit : IsFit told kind answer
  replied : Replies (reply_of limits (echo_told told) came.options kind answer) old came.outcome new
  options : came.options ≡ told.options
  given : came.given ≡ 0

of_kind : (limits : Limits) (told : CallData) (kind : Kind) (a : AnswerData) (text : List ℕ) (old : Written)
    (came : Answered) (new : Written)
    → ((answer : Answer) → options_told told kind answer ≡ told.options)
    → ((answer : Answer) → node_answered kind answer ≡ None)
    → ((answer : Answer) → IsSaid a text old.left kind answer → IsFit told kind answer)
    → IsAnswered limits told kind a text old came new → IsRowAnswered limits told kind a text old came new
of_kind limits told kind a text old came new options none fit x = record {
  answer = x.answer;
  said = x.said;
  fits = x.comes.0;
  fit = fit x.answer x.said;
  replied = x.comes.1;
  options = x.comes.2 ∙ options x.answer;
  given = rw (none x.answer) at x.comes.3;
}

-- whatever the data of its answer are
abbrev RowTurns : CallData → Type 0
RowTurns row =
    (options room : ℕ) (limits : Limits) (a : AnswerData) (text : List ℕ) (items : List ItemData) (old : Written)
    (came : Answered) (new : Written) (following : List ℕ)
    → Answers limits (kind_told row.answer row.size) (told_under options room row)
    (answer_offered (told_under options room row) a text) text items old (Some came) new
    → length old.left + length following ≡ room
    → IsRowAnswered limits (told_under options room row) (row_kind row.answer)
    (answer_offered (told_under options room row) a text) text (with_after old following) came (with_after new following)

each_row : OfEachRow RowTurns
each_row = record {
  getlk = λ h r options room limits a text items old came new following x long.
      of_kind limits _ Texts _ text _ came _ (λ _. refl) (λ _. refl) (said_fits (told_under options room (lock_told number.GETLK kind.BYTES h r)) refl a text (old.left ++ following)) (x.1 following long);
  setlk = λ h r options room limits a text items old came new following x long.
      of_kind limits _ Told _ text _ came _ (λ _. refl) (λ _. refl) (λ _ _. tt) (x.1 following long);
  setlkw = λ h r options room limits a text items old came new following x long.
      of_kind limits _ Told _ text _ came _ (λ _. refl) (λ _. refl) (λ _ _. tt) (x.1 following long);
  bmap = λ h r options room limits a text items old came new following x long.
      of_kind limits _ Offsets _ text _ came _ (λ _. refl) (λ _. refl) (λ _ _. tt) (x.1 following long);
  ioctl = λ h r options room limits a text items old came new following x long.
      of_kind limits _ Texts _ text _ came _ (λ _. refl) (λ _. refl) (said_fits (told_under options room (ioctl_told h r)) refl a text (old.left ++ following)) (x.1 following long);
  poll = λ h r options room limits a text items old came new following x long.
      of_kind limits _ Writes _ text _ came _ (λ _. refl) (λ _. refl) (λ _ _. tt) (x.1 following long);
  notify = λ h r options room limits a text items old came new following x long.
      of_kind limits _ Quiet _ text _ came _ (λ _. refl) (λ _. refl) (λ _ _. tt) (x.1 following long);
  statx = λ h r options room limits a text items old came new following x long.
      of_kind limits _ Texts _ text _ came _ (λ _. refl) (λ _. refl) (said_fits (told_under options room (statx_told h r)) refl a text (old.left ++ following)) (x.1 following long);
  copy = λ h r options room limits a text items old came new following x long.
      of_kind limits _ Offsets _ text _ came _ (λ _. refl) (λ _. refl) (λ _ _. tt) (x.1 following long);
}

-- ---- each request

module _ (limits : Limits) (offers options : ℕ) (request : List ℕ) (asked_in after : Written) (told : CallData)
    (a : AnswerData) (text : List ℕ) (items : List ItemData) (old : Written) (following : List ℕ) (came : Answered)
    (new : Written)
    (same : length (old.left ++ following) ≡ length asked_in.left)
    (by_kind : Answers limits (kind_told told.answer told.size) told (answer_offered told a text) text items old
    (Some came) new)
    (calls : AnswersEachCall limits told (answer_offered told a text) text old (Some came) new)
    (listings : AnswersEachListing limits told (answer_offered told a text) items (with_after old following) (Some came)
    (with_after new following)) where
  -- what is to be shown of a request that asks this
  record Turned (what : What) : Type 0 where
    events : List Event
    row : Option (CallData × Answer)
    room_after : List ℕ
    happened :
        HappenedOffered limits options request what told (answer_offered told a text) text items (old.left ++ following)
        came events row
    leaves : Leaves (with_after old following) room_after (with_after new following)
    follows :
        FollowsOffered (offered_turn offers request (with_after old following) events came room_after row) limits options
        what came.options

  turned_row : (row : CallData) → RowTurns row → told ≡ told_under options (length asked_in.left) row → Turned (Row row)
  turned_row row turns is =
      let space = length (old.left ++ following) in
      let e : told ≡ told_under options space row = is ∙ ap (λ (n : ℕ). told_under options n row) (sym same) in
      let x : Answers limits (kind_told row.answer row.size) (told_under options space row)
      (answer_offered (told_under options space row) a text) text items old (Some came) new =
      subst (λ (c : CallData). Answers limits (kind_told c.answer c.size) c (answer_offered c a text) text items old
      (Some came) new) e by_kind in
      let r = turns options space limits a text items old came new following x (sym (length-append old.left following)) in
      let b = came_back _ (with_after old following) (with_after new following) came.outcome r.replied in
      record {
        events = [];
        row = Some (told, r.answer);
        room_after = b.room_after;
        happened = (
          r.answer,
          refl,
          subst (λ (c : CallData). IsSaid (answer_offered c a text) text (old.left ++ following) (row_kind c.answer) r.answer)
              (sym e) r.said,
          refl,
          r.given,
        );
        leaves = b.leaves;
        follows = (r.answer, ap (λ (c : CallData). Some (c, r.answer)) e, refl, r.fits, r.fit, b.says, r.options);
      }

  turned : (what : What) → OfRow RowTurns what → IsToldOffered limits options request what asked_in after told
      → Turned what
  turned Ordinary turns is =
      let t = are_one_turn limits options request asked_in after told (answer_offered told a text) text items old following
      came new (record { is_asked = is; same_room = same; call = calls; listing = listings }) in
      record {
        events = t.events;
        row = None;
        room_after = t.room_after;
        happened = (refl, t.happened);
        leaves = t.leaves;
        follows = (refl, t.turn);
      }
  turned Short turns is = absurd is
  turned (Row row) turns is = turned_row row turns is
  turned Unnamed turns is =
      let created = is.0 in
      let kind_is = told_created limits options request asked_in after created is.1 in
      let x : Answers limits (kind_told created.answer created.size) (named_tmpfile created) (answer_offered told a text)
      text items old (Some came) new =
      subst (λ (c : CallData). Answers limits (kind_told c.answer c.size) c (answer_offered told a text) text items old
      (Some came) new) is.2 by_kind in
      let y = renamed limits created (answer_offered told a text) text items old came new kind_is x in
      let t = are_one_turn limits options (as_create request) asked_in after created (answer_offered told a text) text
      items old following came new (record {
        is_asked = is.1;
        same_room = same;
        call = each_call limits created (answer_offered told a text) text items old new (Some came) y;
        listing = λ echo listing tells_echo tells long. absurd (let e = sym kind_is ∙ tells.kind in cc);
      }) in
      record {
        events = t.events;
        row = None;
        room_after = t.room_after;
        happened = (refl, t.happened);
        leaves = t.leaves;
        follows = (refl, t.turn);
      }

pub are_one_offered_turn : AreOneOfferedTurn
are_one_offered_turn limits offers options request asked_in after told a text items old following came new is =
    let t = turned limits offers options request asked_in after told a text items old following came new is.same_room
    is.by_kind is.call is.listing (what_of offers limits request)
    (of_what RowTurns each_row offers limits (record_of in_header request) _ _) is.is_told in
    record {
      events = t.events;
      row = t.row;
      room_after = t.room_after;
      happened = t.happened;
      leaves = t.leaves;
      turn = t.follows;
    }
