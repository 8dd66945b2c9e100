-- What C is told of a call that was answered.
use Rattle.std.proofs.Common.{◌≡◌, ◌≢◌, ◌≤◌, ◌+◌, ◌-◌, ◌∙◌, ◌==◌, ◌&&◌, ℕ, ℤ, pos, Bool, true, false, List, length, replicate, if◌then◌else◌, Option, Some, None, IfSome, Result, Ok, Err, refl, ap, sym, subst, inl, arith, rules}
use Rattle.std.proofs.lemmas.List.{length-replicate}
use Rattle.std.proofs.lemmas.Bool.Decides.{Decides-int_eq, nat_tests}
use Rattle.std.specs.Ordering.{int_eq}
use Rattle.std.specs.Prelude.{⊤, MatchOption}
use Rattle.vfs_segments.specs.Written.{Written, whole}
use Rattle.vfs_files.specs.Answers.{Kind, Quiet, Untold, Data, Agreements, Iterators, Answer, Done, read_answer}
use Rattle.vfs_messages.specs.Rooms.{Replies, with_after}
use Rattle.vfs_grammar.specs.Reply.{Echo, Reply, Refusal, NoReply, Bytes, OpenAfter, reply_of}
use Rattle.vfs_grammar.specs.Words.{reply_to}
use Rattle.vfs_grammar.specs.declared.error.Error.{Error}
use Rattle.vfs_grammar.specs.declared.error.Error.TheVariants.{EncodeMessage, OutOfMemory}
use Rattle.vfs_grammar.specs.declared.limits.Limits.{Limits}
use Rattle.codec_calls.specs.declared.call.CallData.{CallData}
use Rattle.codec_calls.specs.declared.call.kind.TheConstants as kind
use Rattle.codec_calls.specs.declared.call.number.TheConstants as number
use Rattle.codec_calls.specs.declared.data.AnswerData.{AnswerData}
use Rattle.codec_calls.specs.declared.data.ItemData.{ItemData}
use Rattle.codec_encode.specs.Fitting.{answer_offered}
use Rattle.codec_encode.specs.Kinds.{kind_told}
use Rattle.codec_encode.specs.Answering.{Answers, AnswersCall, can_answer, echo_told}
use Rattle.codec_encode.specs.Told.{AnswersEachCall, AnswersEachListing}
use Rattle.codec_encode.specs.declared.answered.Answered.{Answered}
use Rattle.c_rooms.specs.Codes.{outcome_code, length_of}
use Rattle.nizwarf_codec.specs.Answering.{AnswersOrNot, entry_of}
use Rattle.nizwarf_codec.specs.Kept.{put_of}
use Rattle.nizwarf_codec.specs.Rooms.{HasRoomFor}
use Rattle.nizwarf_codec.specs.Shown.{first_shown}
use Rattle.nizwarf_codec.specs.Turns.{IsAnsweredOrNot}
use Rattle.nizwarf_codec.specs.declared.data.ToldData.{ToldData}
use Rattle.nizwarf_codec.specs.declared.memory.Part.{Part}
use Rattle.nizwarf_codec.proofs.Leaving.{Keeps, replied_keeps, same_keeps, keeps_room, are_first, shorter}

-- ---- texts that fit

-- an answer that stands in the place of another, or none
pub fitting_is : (unfit : Option AnswerData) (offered now a : AnswerData) → MatchOption unfit (offered ≡ a) (λ it. it ≡ offered)
    → MatchOption unfit (now ≡ a) (λ it. now ≡ it) → now ≡ offered
fitting_is None offered now a is taken = taken ∙ sym is
fitting_is (Some it) offered now a is taken = taken ∙ is

pub answered_as : (limits : Limits) (call : CallData) (a b : AnswerData) (text : List ℕ) (items : List ItemData) (code : ℤ)
    (told told_after : ToldData) (shown : List ℕ) → a ≡ b
    → AnswersOrNot limits call a text items code told told_after shown
    → AnswersOrNot limits call b text items code told told_after shown
answered_as limits call a b text items code told told_after shown is answers =
    subst (λ (x : AnswerData). AnswersOrNot limits call x text items code told told_after shown) is answers

pub turned_as : (limits : Limits) (call : CallData) (a b : AnswerData) (text : List ℕ) (items : List ItemData) (code : ℤ)
    (told told_after : ToldData) (shown : List ℕ) → a ≡ b
    → IsAnsweredOrNot limits call a text items code told told_after shown
    → IsAnsweredOrNot limits call b text items code told told_after shown
turned_as limits call a b text items code told told_after shown is answers =
    subst (λ (x : AnswerData). IsAnsweredOrNot limits call x text items code told told_after shown) is answers

-- no text is looked at but of a call whose answer is one,
pub other_kind : (call : CallData) (a : AnswerData) (text : List ℕ) → (call.answer == kind.BYTES) ≡ false
    → answer_offered call a text ≡ a
other_kind call a text other = rw other refl

-- nor where there is an error;
no_error : (error : ℤ) → (error ≡ pos 0 → ⊥) → int_eq error (pos 0) ≡ false
no_error error some = by (int_eq error (pos 0)) (λ e. some ((Decides-int_eq error (pos 0)).0 e)) where
  by : (b : Bool) → (b ≡ true → ⊥) → b ≡ false
  by true other = absurd (other refl)
  by false other = refl

and_none : (b : Bool) → (b && false) ≡ false
and_none true = refl
and_none false = refl

pub other_error : (call : CallData) (a : AnswerData) (text : List ℕ) → a.error ≢ pos 0 → answer_offered call a text ≡ a
other_error call a text some =
    rw (no_error a.error some, and_none (call.answer == kind.BYTES)) refl

-- nor of another call than of these three rows;
no_number : (n m : ℕ) → n ≢ m → (n == m) ≡ false
no_number n m other = grind (arith, nat_tests, other)

pub no_record : (call : CallData) (a : AnswerData) (text : List ℕ) → call.call ≢ number.GETLK → call.call ≢ number.STATX
    → call.call ≢ number.IOCTL → answer_offered call a text ≡ a
no_record call a text lock statx ioctl =
    rw (
      no_number call.call number.GETLK lock,
      no_number call.call number.STATX statx,
      no_number call.call number.IOCTL ioctl,
      and_none (int_eq a.error (pos 0)),
      and_none (call.answer == kind.BYTES),
    ) refl

-- and the entry of an answer is the same
pub same_entry : (call : CallData) (a : AnswerData) (text : List ℕ)
    → entry_of call (answer_offered call a text) ≡ entry_of call a
same_entry call a text = by (call.answer == kind.BYTES) refl where
  by : (b : Bool) → (call.answer == kind.BYTES) ≡ b → entry_of call (answer_offered call a text) ≡ entry_of call a
  by true is = let answer : call.answer ≡ kind.BYTES = grind (arith, nat_tests, is) in rw answer refl
  by false is = ap (entry_of call) (other_kind call a text is)

-- a writer has no more room than was told
within : (kind : Kind) (call : CallData) (space : ℕ) → can_answer (Some kind) call space ≡ true
    → space ≤ call.room
within (Data size) call space is = search rules
within Iterators call space is = search rules
within kind call space is = search rules

-- no error comes back
abbrev NoRefusal : Reply → Type 0
NoRefusal (Refusal error) = ⊥
NoRefusal NoReply = ⊤
NoRefusal (Bytes reply) = ⊤
NoRefusal (OpenAfter reply) = ⊤

-- of an answer none does
no_refusal : (limits : Limits) (echo : Echo) (options : ℕ) (kind : Kind) (answer : Answer)
    → NoRefusal (reply_of limits echo options kind answer)
no_refusal limits echo options Agreements answer = tt {0}
no_refusal limits echo options Quiet answer = tt {0}
no_refusal limits echo options Untold Done = tt {0}
no_refusal limits echo options Untold answer = tt {0}
no_refusal limits echo options (Data size) answer = tt {0}
no_refusal limits echo options kind answer = tt {0}

put_or_not : (fits : Bool) (n : ℕ) → (if fits then Ok n else Err EncodeMessage) ≢ Err OutOfMemory
put_or_not true n e = cc
put_or_not false n e = cc

-- what is put wants no memory
replied_wants_none : (reply : Reply) (old new : Written) (outcome : Result ℕ Error) → NoRefusal reply
    → Replies reply old outcome new → outcome ≢ Err OutOfMemory
replied_wants_none (Refusal error) old new outcome none h = absurd none
replied_wants_none NoReply old new outcome none h = λ e. let a = h.0 in cc
replied_wants_none (Bytes reply) old new outcome none h = λ e. put_or_not _ _ (sym h.says.says ∙ e)
replied_wants_none (OpenAfter reply) old new outcome none h = λ e. let a = h.says.says in cc

module _ (limits : Limits) (call : CallData) (a : AnswerData) (text : List ℕ) (items : List ItemData)
    (before after : Written) (came : Answered) where
  call_keeps : (kind : Kind) → AnswersCall limits (Some kind) call a text before (Some came) after
      → Keeps before after
  call_keeps kind h =
      let more = call.room - length before.left in
      let following : List ℕ = replicate more 0 in
      let n : length following ≡ more = length-replicate more 0 in
      let fits = within kind call (length before.left) h.0 in
      let all : length before.left + length following ≡ call.room = omega (arith, n, fits) in
      let is = h.1 following all in
      let reply = reply_of limits (echo_told call) came.options kind is.answer in
      shorter before after following (replied_keeps reply
      (with_after before following) (with_after after following) came.outcome is.comes.1)

  -- a writer through which a call was answered keeps what it had passed
  answered_keeps : (kind : Option Kind) → Answers limits kind call a text items before (Some came) after
      → Keeps before after
  answered_keeps None h = absurd h
  answered_keeps (Some Iterators) h =
      let reply = reply_to call.unique (Data call.size) (read_answer h.1.answer h.1.records) in
      replied_keeps reply before after came.outcome h.1.replied
  answered_keeps (Some kind) h = call_keeps kind h

  call_wants_none : (kind : Kind) → AnswersCall limits (Some kind) call a text before (Some came) after
      → came.outcome ≢ Err OutOfMemory
  call_wants_none kind h =
      let more = call.room - length before.left in
      let following : List ℕ = replicate more 0 in
      let n : length following ≡ more = length-replicate more 0 in
      let fits = within kind call (length before.left) h.0 in
      let all : length before.left + length following ≡ call.room = omega (arith, n, fits) in
      let is = h.1 following all in
      replied_wants_none (reply_of limits (echo_told call) came.options kind is.answer)
      (with_after before following) (with_after after following) came.outcome
      (no_refusal limits (echo_told call) came.options kind is.answer) is.comes.1

  -- a call that was answered wanted no memory
  answered_wants_none : (kind : Option Kind) → Answers limits kind call a text items before (Some came) after
      → came.outcome ≢ Err OutOfMemory
  answered_wants_none None h = absurd h
  answered_wants_none (Some Iterators) h =
      replied_wants_none (reply_to call.unique (Data call.size) (read_answer h.1.answer h.1.records))
      before after came.outcome (tt {0}) h.1.replied
  answered_wants_none (Some kind) h = call_wants_none kind h

-- an answer is told so, with this length and that many bytes put
abbrev told_by : ToldData → Answered → (len put : ℕ) → ToldData
told_by told came len put = record told {
  len = len;
  put = put;
  options = came.options;
  give_back = came.given;
  taken = came.taken;
}

module _ (limits : Limits) (call : CallData) (a : AnswerData) (text : List ℕ) (items : List ItemData)
    (total : ℕ) (told : ToldData) (before after : Written) (result : Option Answered)
    (space : length before.left ≡ total) (total_is : total ≡ put_of call call.room) where
  -- the clauses of `answer`
  abbrev Clauses : Option Answered → Type 0
  Clauses r =
      Answers limits (kind_told call.answer call.size) call a text items before r after
      × AnswersEachCall limits call a text before r after
      × AnswersEachListing limits call a items before r after
      × IfSome r (λ came. came.taken ≤ length items)

  -- it was answered
  pub told_answered : (code : ℤ) (start len put : ℕ) (came : Answered)
      → Clauses result → result ≡ Some came → start ≡ length before.passed → length before.lengths ≡ 1
      → code ≡ outcome_code came.outcome → len ≡ length_of came.outcome → put ≡ put_of call len
      → AnswersOrNot limits call a text items code told (told_by told came len put)
      (first_shown after.lengths (whole after) start put)
  told_answered code start len put came clauses some_is at one number length_is put_is =
      let n = length_of came.outcome in
      let is : Clauses (Some came) = subst Clauses some_is clauses in
      let keeps = answered_keeps limits call a text items before after came
      (kind_told call.answer call.size) is.0 in
      let puts : put ≡ put_of call n = put_is ∙ ap (put_of call) length_is in
      let first = are_first (put_of call n) start before after keeps at one in
      inl (record {
        before = before;
        space = space ∙ total_is;
        result = Some came;
        after = after;
        by_kind = is.0;
        calls = is.1;
        listings = is.2;
        within = is.3;
        passed_on = (
          number,
          ap (λ (k : ℕ). told_by told came k put) length_is ∙ ap (told_by told came n) puts,
          rw puts first,
        );
      })

  -- it was answered, and wanted no memory
  pub told_wants_none : (came : Answered) → Clauses result → result ≡ Some came
      → came.outcome ≢ Err OutOfMemory
  told_wants_none came clauses some_is =
      let is : Clauses (Some came) = subst Clauses some_is clauses in
      answered_wants_none limits call a text items before after came (kind_told call.answer call.size) is.0

module _ (limits : Limits) (call : CallData) (a : AnswerData) (text : List ℕ) (items : List ItemData) (n : ℕ)
    (old : Part) (after : Written) (result : Option Answered) where
  -- the part when its writer was lent to an answer
  abbrev lent : Part
  lent = record old { writer = after }

  none_same : (kind : Option Kind) → Answers limits kind call a text items old.writer None after → after ≡ old.writer
  none_same None h = h.1
  none_same (Some Iterators) h = h.1
  none_same (Some kind) h = h.1

  -- where none was put, it has as much room as before
  pub none_keeps : Answers limits (kind_told call.answer call.size) call a text items old.writer result after
      → result ≡ None → HasRoomFor n old → HasRoomFor n lent
  none_keeps answers none has =
      let is = subst (λ (r : Option Answered). Answers limits (kind_told call.answer call.size) call a text items old.writer r after)
      none answers in
      keeps_room n old lent
      (same_keeps old.writer after (none_same (kind_told call.answer call.size) is)) has

  -- and where one was
  pub told_keeps : (came : Answered)
      → Answers limits (kind_told call.answer call.size) call a text items old.writer result after
      → result ≡ Some came → HasRoomFor n old → HasRoomFor n lent
  told_keeps came answers some has =
      let is = subst (λ (r : Option Answered). Answers limits (kind_told call.answer call.size) call a text items old.writer r after)
      some answers in
      keeps_room n old lent
      (answered_keeps limits call a text items old.writer after came (kind_told call.answer call.size) is) has
