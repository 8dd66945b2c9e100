-- What is told of a call is told of its kind.
use Rattle.std.proofs.Common.{◌≡◌, ◌≢◌, ◌==◌, ◌&&◌, ◌⊎◌, ◌<◌, ◌≤◌, ◌+◌, ◌-◌, ◌^◌, ℕ, List, ◌++◌, length, Bool, true, false, nat_le, nat_lt, inl, inr, Option, Some, None, MatchOption, refl, ap, subst, ◌∙◌, arith}
use Rattle.std.specs.Prelude.{if◌then◌else◌, unwrap_or}
use Rattle.std.proofs.lemmas.Bool.Decides.{nat_tests}
use Rattle.vfs_segments.specs.Written.{Written}
use Rattle.vfs_files.specs.Calls.{Call, kind_of, Answer, Options, Kind, Data, Agreements, Iterators}
use Rattle.vfs_files.specs.Calls as call
use Rattle.vfs_messages.specs.Rooms.{Replies, with_after}
use Rattle.vfs_grammar.specs.Listing.{Listing}
use Rattle.vfs_grammar.specs.Options.{agreed, options_after}
use Rattle.vfs_grammar.specs.Reply.{Reply, Echo, reply_of}
use Rattle.vfs_grammar.specs.Words.{reply_to}
use Rattle.vfs_grammar.specs.Room.{unseen}
use Rattle.vfs_grammar.specs.Turn.{node_answered}
use Rattle.vfs_grammar.specs.declared.limits.Limits.{Limits}
use Rattle.codec_calls.specs.Shapes.{shape_of}
use Rattle.codec_calls.specs.declared.call.CallData.{CallData}
use Rattle.codec_calls.specs.declared.data.AnswerData.{AnswerData}
use Rattle.codec_calls.specs.declared.data.ItemData.{ItemData}
use Rattle.codec_encode.specs.Kinds.{kind_told}
use Rattle.codec_encode.specs.Answering.{Answers, AnswersCall, IsAnswered, can_answer, echo_told, options_told}
use Rattle.codec_encode.specs.Told.{IsShort, IsUnlisted, TellsEcho, TellsOffer, TellsCall, TellsListing, CallIsAnswered, ListingIsAnswered, AnswersEachCall, AnswersEachListing}
use Rattle.codec_encode.specs.declared.answered.Answered.{Answered}

-- the kind that a call's shape tells is the call's
told_kind : (c : Call) → kind_told (shape_of c).answer (shape_of c).size ≡ Some (kind_of c)
told_kind (call.Lookup ctx parent name) = refl
told_kind _ = refl

init_options : (told : CallData) (offered : ℕ) (answer : Answer) → told.length ≡ offered
    → options_told told Agreements answer ≡ options_after (call.Init offered) answer told.options
init_options told offered (Options want) e = ap (λ n. agreed n want) e
init_options told offered _ e = refl

quiet_options : (told : CallData) (number : ℕ) → told.call ≡ number → (number == 38) ≡ false → (if told.call == 38 then 0 else told.options) ≡ told.options
quiet_options told number e other = rw (e, other) refl

-- the options that are told are those after the call
told_options : (told : CallData) (c : Call) (answer : Answer) → told.call ≡ (shape_of c).call → TellsOffer told c
    → options_told told (kind_of c) answer ≡ options_after c answer told.options
told_options told (call.Init offered) answer e o = init_options told offered answer o
told_options told (call.Forget ctx inode count) answer e o = quiet_options told 2 e refl
told_options told (call.BatchForget ctx requests) answer e o = quiet_options told 42 e refl
told_options told call.Destroy answer e o = rw e refl
told_options told _ answer e o = refl

-- a reply is that of what the data keep of the request
told_reply : (limits : Limits) (told : CallData) (echo : Echo) (options : ℕ) (kind : Kind) (answer : Answer) → TellsEcho told echo
    → reply_of limits (echo_told told) options kind answer ≡ reply_of limits echo options kind answer
told_reply limits told echo options Agreements answer t = rw (t.unique, t.readahead) refl
told_reply limits told echo options kind answer t = ap (λ (u : ℕ). reply_to u kind answer) t.unique

-- any kind but a directory's
by_value : (limits : Limits) (kind : Kind) (told : CallData) (a : AnswerData) (text : List ℕ) (items : List ItemData) (old : Written) (result : Option Answered) (new : Written)
    → kind ≢ Iterators → Answers limits (Some kind) told a text items old result new → AnswersCall limits (Some kind) told a text old result new
by_value limits Iterators told a text items old result new other h = absurd (other refl)
by_value limits _ told a text items old result new other h = h

first_false : (a b : Bool) → b ≡ true → (a && b) ≡ false → a ≡ false
first_false true b t h = cc
first_false false b t h = refl

second_false : (a b : Bool) → a ≡ true → (a && b) ≡ false → b ≡ false
second_false true b t h = h
second_false false b t h = cc

either : (space size : ℕ) (a b : Bool) → nat_le 16 space ≡ a → nat_lt size (2 ^ 32 - 16) ≡ b → (a && b) ≡ false
    → (space < 16) ⊎ (2 ^ 32 - 16 ≤ size)
either space size false b p q h = inl (grind (arith, nat_tests))
either space size true false p q h = inr (grind (arith, nat_tests))
either space size true true p q h = cc

read_short : (space room : ℕ) → space ≤ room → (nat_le 16 space && nat_le space room) ≡ false → space < 16
read_short space room within h =
    let below : nat_le space room ≡ true = grind (arith, nat_tests) in
    let short : nat_le 16 space ≡ false = first_false (nat_le 16 space) (nat_le space room) below h in
    grind (arith, nat_tests)

other_short : (space following room : ℕ) → space + following ≡ room → (space == room) ≡ false → 0 < following
other_short space following room all h = grind (arith, nat_tests)

list_short : (space room size : ℕ) → space ≡ room → ((space == room) && (nat_le 16 space && nat_lt size (2 ^ 32 - 16))) ≡ false
    → (space < 16) ⊎ (2 ^ 32 - 16 ≤ size)
list_short space room size same h =
    let whole : (space == room) ≡ true = grind (arith, nat_tests) in
    either space size (nat_le 16 space) (nat_lt size (2 ^ 32 - 16)) refl refl (second_false (space == room) _ whole h)

module _ (limits : Limits) (told : CallData) (a : AnswerData) (text : List ℕ) (items : List ItemData) (old new : Written) where
  is_answered : (came : Answered) (echo : Echo) (c : Call) (following : List ℕ) → TellsEcho told echo → TellsCall told c
      → IsAnswered limits told (kind_of c) a text (with_after old following) came (with_after new following)
      → CallIsAnswered limits echo c told.options a text (with_after old following) came (with_after new following)
  is_answered came echo c following e t h =
      let same = told_reply limits told echo came.options (kind_of c) h.answer e in
      let space : ℕ = length (old.left ++ following) in
      record {
        answer = h.answer;
        said = h.said;
        fits = h.comes.0;
        replied = subst (λ (r : Reply). Replies r (with_after old following) came.outcome (with_after new following)) same h.comes.1;
        options_are = h.comes.2 ∙ told_options told c h.answer t.number t.offer;
        given_is = h.comes.3 ∙ ap (λ (r : Reply). unwrap_or (unseen space r (node_answered (kind_of c) h.answer)) 0) same;
        kept = h.kept;
        none_taken = h.comes.4;
      }

  call_short : (kind : Kind) (following : ℕ) → kind ≢ Iterators → length old.left + following ≡ told.room → can_answer (Some kind) told (length old.left) ≡ false → IsShort kind (length old.left) following
  call_short (Data size) following other room h = read_short (length old.left) told.room (omega (arith, room)) h
  call_short Iterators following other room h = absurd (other refl)
  call_short _ following other room h = other_short (length old.left) following told.room room h

  call_answered : (result : Option Answered) (echo : Echo) (c : Call) (following : List ℕ) → TellsEcho told echo → TellsCall told c → kind_of c ≢ Iterators
      → length old.left + length following ≡ told.room → AnswersCall limits (Some (kind_of c)) told a text old result new
      → MatchOption result (IsShort (kind_of c) (length old.left) (length following)) (λ came. CallIsAnswered limits echo c told.options a text (with_after old following) came (with_after new following))
  call_answered None echo c following e t other room h = call_short (kind_of c) (length following) other room h.0
  call_answered (Some came) echo c following e t other room h = is_answered came echo c following e t (h.1 following room)

  pub each_call : (result : Option Answered) → Answers limits (kind_told told.answer told.size) told a text items old result new → AnswersEachCall limits told a text old result new
  each_call result h echo c following e t other room =
      let kind : kind_told told.answer told.size ≡ Some (kind_of c) = rw (t.kind, t.size) (told_kind c) in
      call_answered result echo c following e t other room (by_value limits (kind_of c) told a text items old result new other
      (subst (λ (k : Option Kind). Answers limits k told a text items old result new) kind h))

  listing_answered : (result : Option Answered) (echo : Echo) (listing : Listing) → TellsEcho told echo → TellsListing told listing → length old.left ≡ told.room
      → Answers limits (Some Iterators) told a text items old result new
      → MatchOption result (IsUnlisted (length old.left) listing) (λ came. ListingIsAnswered limits echo listing told.options a items old came new)
  listing_answered None echo listing e t room h =
      subst (λ (x : Listing). IsUnlisted (length old.left) x) t.listing_is (list_short (length old.left) told.room told.size room h.0)
  listing_answered (Some came) echo listing e t room h =
      let l = h.1 in
      subst (λ (x : Listing). ListingIsAnswered limits echo x told.options a items old came new) t.listing_is (record {
        events = l.events;
        records = l.records;
        answer = l.answer;
        read = l.read;
        offered = l.offered;
        fits = l.fits;
        replied = rw (← e.unique) l.replied;
        same_options = l.same_options;
        none_given = l.none_given;
      })

  pub each_listing : (result : Option Answered) → Answers limits (kind_told told.answer told.size) told a text items old result new
      → AnswersEachListing limits told a items old result new
  each_listing result h echo listing e t room =
      let kind : kind_told told.answer told.size ≡ Some Iterators = ap (λ n. kind_told n told.size) t.kind in
      listing_answered result echo listing e t room (subst (λ (k : Option Kind). Answers limits k told a text items old result new) kind h)
