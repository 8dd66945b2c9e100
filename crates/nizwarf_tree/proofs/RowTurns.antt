-- A row that was answered is a turn of the further table, with the file system's answer.
use Rattle.std.proofs.Common.{◌≡◌, ◌<◌, ◌+◌, ◌-◌, ◌++◌, ◌∙◌, ◌&&◌, ◌==◌, ℕ, ℤ, pos, Bool, true, false, not, List, [], length, drop, IfSome, Option, Some, None, Result, Err, if◌then◌else◌, append-nil, ap, refl, sym, subst, inl, inr, arith}
use Rattle.std.specs.Ordering.{int_eq}
use Rattle.std.proofs.lemmas.Bool.Decides.{Decides-int_eq}
use Rattle.vfs_flags.specs.Numbers.{eio}
use Rattle.vfs_segments.specs.Written.{Written, whole}
use Rattle.vfs_files.specs.Calls.{Answer, Failed, Text, Texts}
use Rattle.vfs_messages.specs.Rooms.{Replies, with_after}
use Rattle.vfs_grammar.specs.Reply.{Reply, Refusal, NoReply, Bytes, OpenAfter, reply_of}
use Rattle.vfs_grammar.specs.declared.error.Error.{Error}
use Rattle.vfs_grammar.specs.declared.error.Error.TheVariants.{DecodeMessage}
use Rattle.vfs_grammar.specs.declared.limits.Limits.{Limits}
use Rattle.codec_calls.specs.declared.call.CallData.{CallData}
use Rattle.codec_calls.specs.declared.call.kind.TheConstants as kind
use Rattle.codec_calls.specs.declared.data.AnswerData.{AnswerData}
use Rattle.codec_encode.specs.Answering.{Answers, echo_told}
use Rattle.codec_encode.specs.Kinds.{kind_told}
use Rattle.codec_encode.specs.Said.{IsSaid}
use Rattle.codec_encode.specs.Told.{AnswersEachCall, AnswersEachListing}
use Rattle.codec_encode.specs.declared.answered.Answered.{Answered}
use Rattle.codec_encode.specs.Fitting.{answer_offered, fits, is_unfit}
use Rattle.codec_decode.specs.Further.{What, Short, Row, told_under, what_of}
use Rattle.laws_flight.specs.OneOfferedTurn.{AreOneOfferedTurn, HappenedOffered, IsAnsweredOffered, IsToldOffered, offered_turn}
use Rattle.laws_flight.specs.OfferedTurns.{FollowsOffered, IsOfferedTurn, OfferedTurn, row_kind}
use Rattle.c_rooms.specs.Codes.{outcome_code, length_of, shown_of}
use Rattle.vfs_server.specs.Step.{ServerState}
use Rattle.nizwarf_tree.specs.Files.{State, row_answer}
use Rattle.nizwarf_tree.specs.Offered.{AsksRow, row_limits, what_asked}
use Rattle.nizwarf_tree.specs.Served.{RowInC, SaysText}
use Rattle.nizwarf_tree.specs.declared.files.TheConstants.{OFFERS}
use Rattle.nizwarf_tree.proofs.Keeping.{whole_stays}
use Rattle.nizwarf_tree.proofs.Steps.{room_is}

-- ---- what data and a text say

-- neither a text that fits, nor an error, is told as another
fitting : (is_text fine : Bool) (fit : Bool) → fit ≡ true → (is_text && (fine && not fit)) ≡ false
fitting true true fit is = rw is refl
fitting true false fit is = refl
fitting false fine fit is = refl

failing : (is_text fine rest : Bool) → fine ≡ false → (is_text && (fine && rest)) ≡ false
failing true true rest is = cc is
failing true false rest is = refl
failing false fine rest is = refl

test : (b : Bool) → (b ≡ true → ⊥) → b ≡ false
test true isnt = absurd (isnt refl)
test false isnt = refl

not_fine : (a : AnswerData) (error : ℕ) → a.error ≡ pos error → 0 < error → int_eq a.error (pos 0) ≡ false
not_fine a error is some = test (int_eq a.error (pos 0)) (λ e.
    let zero_is : a.error ≡ pos 0 = (Decides-int_eq a.error (pos 0)).0 e in
    let same : pos error ≡ pos 0 = sym is ∙ zero_is in
    no_error same some)
  where
    no_error : pos error ≡ pos 0 → 0 < error → ⊥
    no_error same some = let none : error ≡ 0 = cc in omega (arith, none, some)

is_fit : (call : CallData) (a : AnswerData) (text : List ℕ) (answer : Answer) → SaysText call a text answer
    → is_unfit call a text ≡ false
is_fit call a text (Text bytes) s = fitting (call.answer == kind.BYTES) (int_eq a.error (pos 0)) (fits call text) s.3
is_fit call a text (Failed (Some error)) s =
    failing (call.answer == kind.BYTES) (int_eq a.error (pos 0)) (not (fits call text)) (not_fine a error s.0 s.1)
is_fit call a text (Failed None) s = absurd s
is_fit call a text _ s = absurd s

stays : (call : CallData) (a : AnswerData) (text : List ℕ) → is_unfit call a text ≡ false
    → answer_offered call a text ≡ a
stays call a text fit =
    ap (λ (unfit : Bool). let b : AnswerData = if unfit then record a { error = pos eio } else a in b) fit

-- so they say this answer alone
above : (e : ℕ) → pos e ≡ pos 0 → 0 < e → ⊥
above e is some = let none : e ≡ 0 = cc in omega (arith, none, some)

said_is : (call : CallData) (a : AnswerData) (text room : List ℕ) (answer came : Answer)
    → SaysText call a text answer → IsSaid a text room Texts came → came ≡ answer
said_is call a text room (Text bytes) (Text came) s said = ap Text (said.1 ∙ sym s.1)
said_is call a text room (Text bytes) (Failed fault) s (inl failed) = absurd (failed.0 s.0)
said_is call a text room (Text bytes) (Failed fault) s (inr unfit) = absurd (omega (arith, s.2, unfit.1.1))
said_is call a text room (Text bytes) _ s said = absurd said.1
said_is call a text room (Failed (Some error)) (Failed (Some came)) s (inl failed) =
    let same : pos came ≡ pos error = failed.1 ∙ s.0 in cc
said_is call a text room (Failed (Some error)) (Failed None) s (inl failed) =
    absurd (grind (arith, s.0, s.1, failed.1))
said_is call a text room (Failed (Some error)) (Failed fault) s (inr unfit) =
    absurd (above error (sym s.0 ∙ unfit.0) s.1)
said_is call a text room (Failed (Some error)) _ s said = absurd (above error (sym s.0 ∙ said.0) s.1)
said_is call a text room (Failed None) _ s said = absurd s
said_is call a text room _ _ s said = absurd s

-- ---- the segments of a room

replied_lengths : (reply : Reply) (old new : Written) (outcome : Result ℕ Error) → Replies reply old outcome new
    → new.lengths ≡ old.lengths
replied_lengths (Refusal error) old new outcome h = ap (λ (w : Written). w.lengths) h.1
replied_lengths NoReply old new outcome h = ap (λ (w : Written). w.lengths) h.1
replied_lengths (Bytes reply) old new outcome h = h.leaves.same_segments
replied_lengths (OpenAfter reply) old new outcome h = h.leaves.same_segments

-- those of a reply with a text are as they were
pub same_lengths : (limits : Limits) (call : CallData) (a : AnswerData) (text : List ℕ) (old new : Written)
    (result : Option Answered) → call.answer ≡ kind.BYTES → length old.left ≡ call.room
    → Answers limits (kind_told call.answer call.size) call a text [] old result new → new.lengths ≡ old.lengths
same_lengths limits call a text old new result is_text space x =
    by result (subst (λ (n : ℕ). Answers limits (kind_told n call.size) call a text [] old result new) is_text x)
  where
    by : (result : Option Answered) → Answers limits (Some Texts) call a text [] old result new
        → new.lengths ≡ old.lengths
    by None x = ap (λ (w : Written). w.lengths) x.1
    by (Some came) x =
        let all : length old.left + 0 ≡ call.room = omega (arith, space) in
        let answered = x.1 [] all in
        replied_lengths (reply_of limits (echo_told call) came.options Texts answered.answer) (with_after old [])
        (with_after new []) came.outcome answered.comes.1

-- and the room is as long
replied_whole : (reply : Reply) (old new : Written) (outcome : Result ℕ Error) → Replies reply old outcome new
    → length (whole new) ≡ length (whole old)
replied_whole (Refusal error) old new outcome h = ap (λ (w : Written). length (whole w)) h.1
replied_whole NoReply old new outcome h = ap (λ (w : Written). length (whole w)) h.1
replied_whole (Bytes reply) old new outcome h = whole_stays old new h.room_after h.leaves
replied_whole (OpenAfter reply) old new outcome h = whole_stays old new h.room_after h.leaves

none_more : (w : Written) → length (whole (with_after w [])) ≡ length (whole w)
none_more w = ap (λ (left : List ℕ). length (w.passed ++ left)) (append-nil w.left)

pub same_whole : (limits : Limits) (call : CallData) (a : AnswerData) (text : List ℕ) (old new : Written)
    (result : Option Answered) → call.answer ≡ kind.BYTES → length old.left ≡ call.room
    → Answers limits (kind_told call.answer call.size) call a text [] old result new
    → length (whole new) ≡ length (whole old)
same_whole limits call a text old new result is_text space x =
    by result (subst (λ (n : ℕ). Answers limits (kind_told n call.size) call a text [] old result new) is_text x)
  where
    by : (result : Option Answered) → Answers limits (Some Texts) call a text [] old result new
        → length (whole new) ≡ length (whole old)
    by None x = ap (λ (w : Written). length (whole w)) x.1
    by (Some came) x =
        let all : length old.left + 0 ≡ call.room = omega (arith, space) in
        let answered = x.1 [] all in
        let same = replied_whole (reply_of limits (echo_told call) came.options Texts answered.answer) (with_after old [])
        (with_after new []) came.outcome answered.comes.1 in
        sym (none_more new) ∙ same ∙ none_more old

-- ---- the turn

none_after : (w : Written) → w ≡ with_after w []
none_after w =
    ap (λ (left : List ℕ). let v : Written = record w { left = left } in v) (sym (append-nil w.left))

module _ (old middle new : ServerState State) (request : List ℕ) (total : ℕ) (number : ℤ) (len : ℕ)
    (bytes room : List ℕ) (shown : ℕ) (call : CallData) (a : AnswerData) (text : List ℕ) (limits : Limits)
    (before after : Written) (came : Answered)
    (same : middle ≡ old) (kept : new ≡ middle) (limits_are : limits ≡ row_limits old.limits)
    (asks : AsksRow old total request call) (is_text : call.answer ≡ kind.BYTES)
    (says : SaysText call a text (row_answer old.fs call)) (space : length before.left ≡ total)
    (is : bytes ≡ whole after) (end : room ≡ drop (length bytes - total) bytes)
    (numbered : number ≡ outcome_code came.outcome) (counted : len ≡ length_of came.outcome)
    (copied : shown ≡ shown_of came.outcome total) where
  abbrev of_turn : AnswerData → Written → Written → Type 0
  of_turn b w v = IsAnsweredOffered limits OFFERS old.options request call b text [] w came v

  asked : what_of OFFERS limits request ≡ Row asks.row
  asked = ap (λ (l : Limits). what_of OFFERS l request) limits_are ∙ asks.asks

  is_told : IsToldOffered limits old.options request (what_of OFFERS limits request) before before call
  is_told =
      let told : call ≡ told_under old.options (length before.left) asks.row =
      asks.told ∙ ap (λ (n : ℕ). told_under old.options n asks.row) (sym space) in
      subst (λ (w : What). IsToldOffered limits old.options request w before before call) (sym asked) told

  module _ (turns : AreOneOfferedTurn)
      (by_kind : Answers limits (kind_told call.answer call.size) call (answer_offered call a text) text [] before
      (Some came) after)
      (calls : AnswersEachCall limits call (answer_offered call a text) text before (Some came) after)
      (listings : AnswersEachListing limits call (answer_offered call a text) [] before (Some came) after) where
    turn_of : of_turn a before after
    turn_of =
        let listing : AnswersEachListing limits call (answer_offered call a text) [] (with_after before []) (Some came)
        (with_after after []) =
        subst (λ (v : Written). AnswersEachListing limits call (answer_offered call a text) [] (with_after before [])
        (Some came) v) (none_after after)
        (subst (λ (w : Written). AnswersEachListing limits call (answer_offered call a text) [] w (Some came) after)
        (none_after before) listings) in
        let turn : of_turn (answer_offered call a text) (with_after before []) (with_after after []) =
        turns limits OFFERS old.options request before before call a text [] before [] came after (record {
          is_told = is_told;
          same_room = ap (λ (l : List ℕ). length l) (append-nil before.left);
          by_kind = by_kind;
          call = calls;
          listing = listing;
        }) in
        let first : of_turn (answer_offered call a text) before (with_after after []) =
        subst (λ (w : Written). of_turn (answer_offered call a text) w (with_after after []))
        (sym (none_after before)) turn in
        let second : of_turn (answer_offered call a text) before after =
        subst (λ (v : Written). of_turn (answer_offered call a text) before v) (sym (none_after after)) first in
        subst (λ (b : AnswerData). of_turn b before after)
        (stays call a text (is_fit call a text (row_answer old.fs call) says)) second

    pub answered_row : RowInC old request total number len room shown new
    answered_row =
        let r = turn_of in
        let t : OfferedTurn = offered_turn OFFERS request before r.events came r.room_after r.row in
        let follows : FollowsOffered t limits old.options (Row asks.row) came.options =
        subst (λ (w : What). FollowsOffered t limits old.options w came.options) asked r.turn in
        let happened : HappenedOffered limits old.options request (Row asks.row) call a text [] before.left came
        r.events r.row =
        subst (λ (w : What). HappenedOffered limits old.options request w call a text [] before.left came r.events
        r.row) asked r.happened in
        let said : IsSaid a text before.left Texts happened.0 =
        subst (λ (n : ℕ). IsSaid a text before.left (row_kind n) happened.0) is_text happened.2 in
        let answer : happened.0 ≡ row_answer old.fs call =
        said_is call a text before.left (row_answer old.fs call) happened.0 says said in
        let options : came.options ≡ old.options = follows.6 in
        let turn : IsOfferedTurn (row_limits old.limits) old.options t old.options =
        subst (λ (l : Limits). IsOfferedTurn l old.options t old.options) limits_are
        (subst (λ (o : ℕ). IsOfferedTurn limits old.options t o) options r.turn) in
        record {
          t = t;
          offered = refl;
          asked = refl;
          space = space;
          turn = turn;
          answered = subst (λ (o : Option (CallData × Answer)). IfSome o (λ x. x.1 ≡ row_answer old.fs x.0))
              (sym happened.1) answer;
          numbered = numbered;
          counted = counted;
          left = room_is before.passed r.room_after (whole after) room total r.leaves.kept (r.leaves.same_length ∙ space)
              (end ∙ ap (λ (bs : List ℕ). drop (length bs - total) bs) is);
          copied = copied;
          same = kept ∙ same;
        }

-- ---- a request that is cut

pub refused_short : (old middle new : ServerState State) (request : List ℕ) (total : ℕ) (number : ℤ) (len : ℕ)
    (bytes room : List ℕ) (shown : ℕ) (before : Written)
    → ((limits : Limits) (options offers : ℕ) (request room : List ℕ) → what_of offers limits request ≡ Short
    → IsOfferedTurn limits options (record {
      offers = offers;
      turn = record {
        request = request;
        room = room;
        events = [];
        outcome = Err DecodeMessage;
        room_after = room;
      };
      row = None;
    }) options)
    → middle ≡ old → new ≡ middle → what_asked old.limits request ≡ Short → length before.left ≡ total
    → bytes ≡ whole before → room ≡ drop (length bytes - total) bytes
    → number ≡ outcome_code (Err DecodeMessage) → len ≡ 0 → shown ≡ 0
    → RowInC old request total number len room shown new
refused_short old middle new request total number len bytes room shown before short same kept asks space is end numbered counted copied =
    record {
      t = record {
        offers = OFFERS;
        turn = record {
          request = request;
          room = before.left;
          events = [];
          outcome = Err DecodeMessage;
          room_after = before.left;
        };
        row = None;
      };
      offered = refl;
      asked = refl;
      space = space;
      turn = short (row_limits old.limits) old.options OFFERS request before.left asks;
      answered = tt;
      numbered = numbered;
      counted = counted;
      left = room_is before.passed before.left (whole before) room total refl space
          (end ∙ ap (λ (bs : List ℕ). drop (length bs - total) bs) is);
      copied = copied;
      same = kept ∙ same;
    }
