-- From what ask and answer tell to the turn that both are.
use Rattle.std.proofs.Common.{◌≡◌, ◌+◌, ◌-◌, ◌++◌, ◌∙◌, ◌==◌, ℕ, Bool, true, false, bit_and, not, List, [], ◌∷◌, Option, None, Some, Result, length, refl, ap, sym, subst, inl, inr, length-append, append-nil, IfSome}
use Rattle.std.specs.Prelude.{⊤}
use Rattle.vfs_segments.specs.Written.{Written, Leaves}
use Rattle.vfs_files.specs.Calls.{Call, Init, Data, kind_of, read_answer}
use Rattle.vfs_files.specs.Runs.{Event, Called}
use Rattle.vfs_messages.specs.Rooms.{Replies, with_after}
use Rattle.vfs_grammar.specs.Ask.{ask}
use Rattle.vfs_grammar.specs.Forms.{Ask, Ends, Asks, Lists, WithMemory}
use Rattle.vfs_grammar.specs.Listing.{Listing, given_back}
use Rattle.vfs_grammar.specs.Reply.{Echo, Reply, Refusal, NoReply, Bytes, OpenAfter, reply_of}
use Rattle.vfs_grammar.specs.Room.{IsReplied, unseen}
use Rattle.vfs_grammar.specs.Turn.{Turn, Follows, node_answered}
use Rattle.vfs_grammar.specs.declared.limits.Limits.{Limits}
use Rattle.vfs_grammar.specs.declared.error.Error.{Error}
use Rattle.vfs_grammar.specs.declared.error.Error.TheVariants.{OutOfMemory}
use Rattle.codec_calls.specs.Shapes.{bit}
use Rattle.codec_calls.specs.declared.call.CallData.{CallData}
use Rattle.codec_calls.specs.declared.data.AnswerData.{AnswerData}
use Rattle.codec_calls.specs.declared.data.ItemData.{ItemData}
use Rattle.codec_encode.specs.Listing.{listing_told}
use Rattle.codec_encode.specs.Told.{TellsEcho, TellsOffer, TellsCall, CallIsAnswered, AnswersEachCall, ListingIsAnswered, AnswersEachListing}
use Rattle.codec_encode.specs.declared.answered.Answered.{Answered}
use Rattle.codec_decode.specs.Asked.{IsAsked, IsTold, Tells, told_of_listing, length_of_call}
use Rattle.codec_decode.specs.declared.asked.Asked.TheVariants as asked
use Rattle.laws_flight.specs.OneTurn.{HappenedBetween, IsAnsweredTurn, AreOneTurn, AreFinishedTurns}
use Rattle.laws_flight.proofs.Asking.{IsUsual, is_usual}

-- what came back through a writer, as a reader of the room's bytes sees it
pub record Came (reply : Reply) (old : Written) (outcome : Result ℕ Error) (new : Written) : Type 0 where
  pub room_after : List ℕ
  pub leaves : Leaves old room_after new
  pub says : IsReplied reply old.left outcome room_after

stays : (old new : Written) → new ≡ old → Leaves old old.left new
stays old new e = rw e (record { kept = refl; same_length = refl; same_segments = refl })

pub came_back : (reply : Reply) (old new : Written) (outcome : Result ℕ Error) → Replies reply old outcome new
    → Came reply old outcome new
came_back (Refusal error) old new outcome h =
    record { room_after = old.left; leaves = stays old new h.1; says = (h.0, refl) }
came_back NoReply old new outcome h =
    record { room_after = old.left; leaves = stays old new h.1; says = (h.0, refl) }
came_back (Bytes reply) old new outcome h =
    record { room_after = h.room_after; leaves = h.leaves; says = h.says }
came_back (OpenAfter reply) old new outcome h =
    record { room_after = h.room_after; leaves = h.leaves; says = h.says }

module _ (limits : Limits) (options : ℕ) (request : List ℕ) (a : AnswerData) (text : List ℕ)
    (items : List ItemData) (old : Written) (came : Answered) (new : Written) where
  abbrev turn_of : List Event → (room_after : List ℕ) → Turn
  turn_of events room_after = record {
    request = request;
    room = old.left;
    events = events;
    outcome = came.outcome;
    room_after = room_after;
  }

  -- what is to be shown of a request that asks this
  record Turned (asks : Ask) : Type 0 where
    events : List Event
    room_after : List ℕ
    happened : HappenedBetween limits asks a text items old.left came events
    leaves : Leaves old room_after new
    follows : Follows (turn_of events room_after) limits options asks came.options

  turned_call : (echo : Echo) (call : Call)
      → CallIsAnswered limits echo call options a text old came new → Turned (Asks echo call)
  turned_call echo call c =
      let reply = reply_of limits echo came.options (kind_of call) c.answer in
      let back = unseen (length old.left) reply (node_answered (kind_of call) c.answer) in
      let b = came_back reply old new came.outcome c.replied in
      record {
        events = Called call c.answer ∷ given_back echo.ctx back;
        room_after = b.room_after;
        happened = (c.answer, back, c.said, refl, c.given_is, refl);
        leaves = b.leaves;
        follows = (c.answer, refl, c.fits, b.says, c.options_are);
      }

  turned_listing : (echo : Echo) (l : Listing)
      → ListingIsAnswered limits echo l options a items old came new → Turned (Lists echo l)
  turned_listing echo l c =
      let b = came_back (reply_of limits echo came.options (Data l.size) (read_answer c.answer c.records))
      old new came.outcome c.replied in
      record {
        events = c.events;
        room_after = b.room_after;
        happened = record { records = c.records; answer = c.answer; read = c.read; offered = c.offered };
        leaves = b.leaves;
        follows = (c.records, c.answer, c.read, c.fits, b.says, c.same_options);
      }

  with_memory : (rest : Ask) → Turned rest → Turned (WithMemory rest)
  with_memory rest t = record {
    events = t.events;
    room_after = t.room_after;
    happened = t.happened;
    leaves = t.leaves;
    follows = inl t.follows;
  }

-- what INIT offers is told by the count
offers : (told : CallData) (call : Call) → told.length ≡ length_of_call call → TellsOffer told call
offers told (Init offered) is = is
offers told call is = tt

tells_call : (request : List ℕ) (options space : ℕ) (echo : Echo) (call : Call) (told : CallData)
    → IsTold request options space echo call told → TellsCall told call
tells_call request options space echo call told is = record {
  number = ap (λ (c : CallData). c.call) is.numbers;
  kind = ap (λ (c : CallData). c.answer) is.numbers;
  size = ap (λ (c : CallData). c.size) is.numbers;
  offer = offers told call (ap (λ (c : CallData). c.length) is.numbers);
}

tells_echo : (request : List ℕ) (options space : ℕ) (echo : Echo) (call : Call) (told : CallData)
    → IsTold request options space echo call told → TellsEcho told echo
tells_echo request options space echo call told is = record {
  unique = ap (λ (c : CallData). c.unique) is.numbers;
  readahead = ap (λ (c : CallData). c.readahead) is.numbers;
}

plus_told : (plus : Bool) → not (bit_and (bit plus 512) 512 == 0) ≡ plus
plus_told true = refl
plus_told false = refl

-- a directory is told whole
listing_of : (options space : ℕ) (echo : Echo) (l : Listing) → l.space ≡ space - 16
    → listing_told (told_of_listing options space echo l) ≡ l
listing_of options space echo l all =
    ap (λ (plus : Bool). let m : Listing = record l { plus = plus; space = space - 16 } in m) (plus_told l.plus)
    ∙ ap (λ (n : ℕ). let m : Listing = record l { space = n } in m) (sym all)

module _ (limits : Limits) (options interrupts : ℕ) (request : List ℕ) (asked_in after : Written)
    (told : CallData) (a : AnswerData) (text : List ℕ) (items : List ItemData) (old : Written)
    (following : List ℕ) (came : Answered) (new : Written)
    (same : length (old.left ++ following) ≡ length asked_in.left)
    (calls : AnswersEachCall limits told a text old (Some came) new)
    (listings : AnswersEachListing limits told a items (with_after old following) (Some came) (with_after new following)) where
  turned : (asks : Ask) → IsUsual (length asked_in.left) asks
      → Tells ⊤ request options interrupts (length asked_in.left) asks asked_in asked.Call after told
      → Turned limits options request a text items (with_after old following) came (with_after new following) asks
  turned (Ends reply) usual t = absurd t
  turned (Asks echo call) usual t =
      let is : IsTold request options (length asked_in.left) echo call told = t.1 in
      let room : told.room ≡ length asked_in.left = ap (λ (c : CallData). c.room) is.numbers in
      let under : told.options ≡ options = ap (λ (c : CallData). c.options) is.numbers in
      let long : length old.left + length following ≡ told.room =
      sym (length-append old.left following) ∙ same ∙ sym room in
      let c = calls echo call following (tells_echo request options (length asked_in.left) echo call told is)
      (tells_call request options (length asked_in.left) echo call told is) usual long in
      turned_call limits options request a text items (with_after old following) came (with_after new following)
      echo call
      (subst (λ (o : ℕ). CallIsAnswered limits echo call o a text (with_after old following) came (with_after new following))
      under c)
  turned (Lists echo l) usual t =
      let room : told.room ≡ length asked_in.left = ap (λ (c : CallData). c.room) t.1 in
      let under : told.options ≡ options = ap (λ (c : CallData). c.options) t.1 in
      let c = listings echo l
      (record { unique = ap (λ (c : CallData). c.unique) t.1; readahead = ap (λ (c : CallData). c.readahead) t.1 })
      (record {
        kind = ap (λ (c : CallData). c.answer) t.1;
        listing_is = ap listing_told t.1 ∙ listing_of options (length asked_in.left) echo l usual.1;
      })
      (same ∙ sym room) in
      turned_listing limits options request a text items (with_after old following) came (with_after new following)
      echo l
      (subst (λ (o : ℕ). ListingIsAnswered limits echo l o a items (with_after old following) came (with_after new following))
      under c)
  turned (WithMemory rest) usual (inl t) =
      with_memory limits options request a text items (with_after old following) came (with_after new following) rest
      (turned rest usual t)
  turned (WithMemory rest) usual (inr t) = absurd t.1

pub are_one_turn : AreOneTurn
are_one_turn limits options request asked_in after told a text items old following came new is =
    let space = length asked_in.left in
    let t = turned limits options _ request asked_in after told a text items old following came new is.same_room
    is.call is.listing (ask limits options space request) (is_usual limits options space request) is.is_asked in
    let asks : ask limits options space request ≡ ask limits options (length (old.left ++ following)) request =
    ap (λ (n : ℕ). ask limits options n request) (sym is.same_room) in
    record {
      events = t.events;
      room_after = t.room_after;
      happened = subst (λ q. HappenedBetween limits q a text items (old.left ++ following) came t.events) asks t.happened;
      leaves = t.leaves;
      turn = subst (λ q. Follows (turn_of limits options request a text items (with_after old following) came (with_after new following) t.events t.room_after) limits options q came.options) asks t.follows;
    }

none_after : (w : Written) → w ≡ with_after w []
none_after w =
    ap (λ (left : List ℕ). let v : Written = record w { left = left } in v) (sym (append-nil w.left))

-- what comes of both, with all the room for the answer
pub answered_turn : AreOneTurn → (limits : Limits) (options : ℕ) (request : List ℕ) (asked_in after : Written)
    (told : CallData) (a : AnswerData) (text : List ℕ) (items : List ItemData) (old : Written)
    (result : Option Answered) (new : Written)
    → IsAsked limits options request asked_in asked.Call after told
    → length old.left ≡ length asked_in.left
    → AnswersEachCall limits told a text old result new
    → AnswersEachListing limits told a items old result new
    → IfSome result (λ came. IsAnsweredTurn limits options request a text items (with_after old []) came
    (with_after new []))
answered_turn law limits options request asked_in after told a text items old None new is same calls listings = tt
answered_turn law limits options request asked_in after told a text items old (Some came) new is same calls listings =
    law limits options request asked_in after told a text items old [] came new (record {
      is_asked = is;
      same_room = ap length (append-nil old.left) ∙ same;
      call = calls;
      listing =
          subst (λ (w : Written). AnswersEachListing limits told a items w (Some came) (with_after new [])) (none_after old)
          (subst (λ (w : Written). AnswersEachListing limits told a items old (Some came) w) (none_after new) listings);
    })

-- ---- a request that is finished when it is asked

module _ (limits : Limits) (options interrupts : ℕ) (request : List ℕ) (space : ℕ) (old new : Written)
    (outcome : Result ℕ Error) (told : CallData) where
  -- what is to be shown of a request that asks this
  record Finishes (asks : Ask) : Type 0 where
    room_after : List ℕ
    leaves : Leaves old room_after new
    follows : Follows (record {
      request = request;
      room = old.left;
      events = [];
      outcome = outcome;
      room_after = room_after;
    }) limits options asks options

  finishes : (asks : Ask) → (number : ℕ)
      → Tells ⊤ request options interrupts space asks old (asked.Finished outcome number) new told → Finishes asks
  finishes (Ends reply) number t =
      let b = came_back reply old new outcome t.0 in
      record { room_after = b.room_after; leaves = b.leaves; follows = (refl, b.says, refl) }
  finishes (Asks echo call) number t = absurd (let same = t.0 in cc)
  finishes (Lists echo l) number t = absurd (let same = t.0 in cc)
  finishes (WithMemory rest) number (inl t) =
      let f = finishes rest number t in
      record { room_after = f.room_after; leaves = f.leaves; follows = inl f.follows }
  finishes (WithMemory rest) number (inr t) =
      let b = came_back (Refusal OutOfMemory) old new outcome t.1.0 in
      record { room_after = b.room_after; leaves = b.leaves; follows = inr (refl, b.says, refl) }

pub are_finished_turns : AreFinishedTurns
are_finished_turns limits options request old new outcome number told is =
    let f = finishes limits options _ request (length old.left) old new outcome told (ask limits options (length old.left) request) number is in
    record { room_after = f.room_after; leaves = f.leaves; turn = f.follows }
