-- A request that was asked, and whose call was answered, by the library's functions, is one turn.
use Rattle.std.proofs.Common.{◌≡◌, ◌≢◌, ◌≤◌, ◌^◌, ◌⊎◌, ◌+◌, ◌∙◌, ◌==◌, if◌then◌else◌, ℕ, ℤ, List, length, min, Bool, true, false, Option, Some, None, refl, ap, sym, subst, inl, inr, arith, length-append}
use Rattle.std.proofs.lemmas.Bool.Decides.{nat_tests}
use Rattle.std.specs.Prelude.{⊤}
use Rattle.vfs_segments.specs.Written.{Written}
use Rattle.vfs_messages.specs.Rooms.{with_after}
use Rattle.vfs_grammar.specs.Ask.{ask}
use Rattle.vfs_grammar.specs.Forms.{Ask, Ends, Asks as asks_call, Lists, WithMemory}
use Rattle.vfs_grammar.specs.declared.limits.Limits.{Limits}
use Rattle.codec_calls.specs.declared.call.CallData.{CallData}
use Rattle.codec_calls.specs.declared.data.AnswerData.{AnswerData}
use Rattle.codec_calls.specs.declared.data.ItemData.{ItemData}
use Rattle.codec_decode.specs.Asked.{IsAsked, Tells, interrupted_by}
use Rattle.codec_decode.specs.declared.asked.Asked.{Asked}
use Rattle.codec_decode.specs.declared.asked.Asked.TheVariants as asked
use Rattle.codec_encode.specs.Told.{AnswersEachCall, AnswersEachListing}
use Rattle.codec_encode.specs.declared.answered.Answered.{Answered}
use Rattle.vfs_messages.proofs.Rooms.{with_none_after}
use Rattle.laws_flight.specs.OneTurn.{AreOneTurn}
use Rattle.c_rooms.specs.Codes.{no_memory, not_asked, too_long, is_asked}
use Rattle.nizwarf_codec.specs.Answering.{AnswersOrNot, IsAnswerTold}
use Rattle.nizwarf_codec.specs.Asking.{AsksOrNot, IsAskTold}
use Rattle.nizwarf_codec.specs.Kept.{put_of}
use Rattle.nizwarf_codec.specs.Uses.{IsOneTurn}
use Rattle.nizwarf_codec.specs.declared.data.ToldData.{ToldData}
use Rattle.nizwarf_codec.proofs.Asking.{no_call}

call_told : (result : Asked) (before after : Written) (code : ℤ) (told told_after : ToldData)
    (shown : List ℕ) → IsAskTold result before after code told told_after shown → code ≡ is_asked
    → result ≡ asked.Call
call_told asked.Call before after code told told_after shown on is = refl
call_told (asked.Finished outcome n) before after code told told_after shown on is =
    absurd (no_call outcome (sym on.0 ∙ is))

-- nothing else is told then
same_told : (result : Asked) (before after : Written) (code : ℤ) (told told_after : ToldData)
    (shown : List ℕ) → IsAskTold result before after code told told_after shown → code ≡ is_asked
    → told_after ≡ told
same_told asked.Call before after code told told_after shown on is = on.1
same_told (asked.Finished outcome n) before after code told told_after shown on is =
    absurd (no_call outcome (sym on.0 ∙ is))

pub told_as_before : (limits : Limits) (options : ℕ) (request : List ℕ) (room : ℕ) (call : CallData) (code : ℤ)
    (told told_after : ToldData) (shown : List ℕ)
    → AsksOrNot limits options request room code call told told_after shown → code ≡ is_asked → told_after ≡ told
told_as_before limits options request room call code told told_after shown (inl s) is =
    same_told s.result s.before s.after code told told_after shown s.passed_on is
told_as_before limits options request room call code told told_after shown (inr s) is = s.same_told

-- a call is told with all the room that there was
room_told : (request : List ℕ) (options interrupts room : ℕ) (a : Ask) (before after : Written)
    (call : CallData) → Tells ⊤ request options interrupts room a before asked.Call after call
    → call.room ≡ room
room_told q o n room (Ends reply) before after call t = absurd t
room_told q o n room (asks_call echo asked) before after call t =
    ap (λ (c : CallData). c.room) t.1.numbers
room_told q o n room (Lists echo l) before after call t = ap (λ (c : CallData). c.room) t.1
room_told q o n room (WithMemory rest) before after call (inl t) = room_told q o n room rest before after call t
room_told q o n room (WithMemory rest) before after call (inr t) = absurd t.1

-- a directory has all its room
pub listing_after : (limits : Limits) (call : CallData) (a : AnswerData) (items : List ItemData)
    (old new : Written) (came : Answered) (following : List ℕ) (only : Bool) → (call.answer == 3) ≡ only
    → length old.left ≡ (if only then min call.room 16 else call.room)
    → length old.left + length following ≡ call.room
    → AnswersEachListing limits call a items old (Some came) new
    → AnswersEachListing limits call a items (with_after old following) (Some came) (with_after new following)
listing_after limits call a items old new came following true is space all h = λ echo l te tl same.
    let no = tl.kind in absurd (grind (arith, nat_tests, no, is))
listing_after limits call a items old new came following false is space all h =
    let none : length following ≡ 0 = omega (arith, space, all) in
    subst (λ (w : Written). AnswersEachListing limits call a items w (Some came) (with_after new following))
    (sym (with_none_after old following none))
    (subst (λ (w : Written). AnswersEachListing limits call a items old (Some came) w)
    (sym (with_none_after new following none)) h)

module _ (law : AreOneTurn) (limits : Limits) (options : ℕ) (request : List ℕ) (room : ℕ)
    (call : CallData) (a : AnswerData) (text : List ℕ) (items : List ItemData) where
  of_came : (asked_in asked_after old new : Written) (came : Answered) (code : ℤ) (told told_after : ToldData)
      (shown : List ℕ)
      → IsAsked limits options request asked_in asked.Call asked_after call
      → length asked_in.left ≡ room → length old.left ≡ put_of call call.room
      → AnswersEachCall limits call a text old (Some came) new
      → AnswersEachListing limits call a items old (Some came) new
      → IsAnswerTold (Some came) call old new code told told_after shown
      → IsOneTurn limits options request room call a text items code told told_after shown
  of_came asked_in asked_after old new came code t t1 shown is space put calls listings on =
      let told = room_told request options (interrupted_by limits request) (length asked_in.left)
      (ask limits options (length asked_in.left) request) asked_in asked_after call is in
      record {
        before = old;
        came = came;
        after = new;
        turn = λ following all. law limits options request asked_in asked_after call a text items old following
            came new (record {
              is_asked = is;
              same_room = length-append old.left following ∙ all ∙ sym space;
              call = calls;
              listing = listing_after limits call a items old new came following (call.answer == 3) refl put
                  (all ∙ sym space ∙ sym told) listings;
            });
        passed_on = on;
      }

  by_result : (asked_in asked_after old new : Written) (result : Option Answered) (code : ℤ)
      (told told_after : ToldData) (shown : List ℕ)
      → IsAsked limits options request asked_in asked.Call asked_after call
      → length asked_in.left ≡ room → length old.left ≡ put_of call call.room
      → AnswersEachCall limits call a text old result new
      → AnswersEachListing limits call a items old result new
      → IsAnswerTold result call old new code told told_after shown → code ≢ not_asked
      → IsOneTurn limits options request room call a text items code told told_after shown
  by_result asked_in asked_after old new None code told told_after shown is space put calls listings on came =
      absurd (came on.0)
  by_result asked_in asked_after old new (Some came) code told told_after shown is space put calls listings on not =
      of_came asked_in asked_after old new came code told told_after shown is space put calls listings on

  -- both by the library's functions, with a slot that has memory
  pub one_turn : (first second : ℤ) (t t1 u u1 : ToldData) (k l : List ℕ)
      → AsksOrNot limits options request room first call t t1 k → first ≡ is_asked
      → AnswersOrNot limits call a text items second u u1 l → second ≢ no_memory → second ≢ not_asked
      → IsOneTurn limits options request room call a text items second u u1 l
  one_turn first second t t1 u u1 k l (inl s) asks (inl r) has came =
      let told = call_told s.result s.before s.after first t t1 k s.passed_on asks in
      let is = subst (λ (x : Asked). IsAsked limits options request s.before x s.after call) told s.asked in
      by_result s.before s.after r.before r.after r.result second u u1 l is s.space r.space r.calls r.listings
      r.passed_on came
  one_turn first second t t1 u u1 k l (inl s) asks (inr r) has came = absurd (has r.why)
  one_turn first second t t1 u u1 k l (inr s) asks h has came = absurd (refused s.why)
    where
      refused : (first ≡ no_memory) ⊎ ((first ≡ too_long) × (2 ^ 64 ≤ length request)) → ⊥
      refused (inl none) = cc (none, asks)
      refused (inr long) = cc (long.0, asks)
