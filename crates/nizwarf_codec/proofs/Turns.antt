-- From what ask and answer say over writers to turns of the grammar.
use Rattle.std.proofs.Common.{◌≡◌, ◌≤◌, ◌<◌, ◌+◌, ◌-◌, ◌++◌, ◌∙◌, ◌==◌, ◌^◌, ◌⊎◌, if◌then◌else◌, ℕ, ℤ, Bool, true, false, not, bit_and, nat_le, List, [], ◌∷◌, length, take, replicate, min, Option, None, Some, unwrap_or, Result, refl, ap, sym, subst, inl, inr, arith, length-append, append_assoc}
use Rattle.std.proofs.lemmas.Bool.Decides.{nat_tests}
use Rattle.std.proofs.lemmas.List.{append_cancel_left, length-replicate}
use Rattle.std.specs.Prelude.{⊤}
use Rattle.vfs_segments.specs.Written.{Written, whole}
use Rattle.vfs_files.specs.Calls.{Call, Kind, Entries, Creations, Data, Answer, Found, Created, kind_of, read_answer}
use Rattle.vfs_files.specs.Calls as call
use Rattle.vfs_files.specs.Runs.{Event, Called}
use Rattle.vfs_messages.specs.Rooms.{with_after}
use Rattle.vfs_messages.proofs.Rooms.{whole_after}
use Rattle.vfs_grammar.specs.Ask.{ask}
use Rattle.vfs_grammar.specs.Forms.{Ask, Ends, Asks as asks_call, Lists, WithMemory}
use Rattle.vfs_grammar.specs.Limits.{AreLimits}
use Rattle.vfs_grammar.specs.Listing.{Listing, given_back}
use Rattle.vfs_grammar.specs.Reply.{Echo, Reply, Refusal, NoReply, Bytes, OpenAfter, reply_of}
use Rattle.vfs_grammar.specs.Room.{IsReplied, unseen}
use Rattle.vfs_grammar.specs.Turn.{Turn, Follows, node_answered}
use Rattle.vfs_grammar.specs.Words.{counted}
use Rattle.vfs_grammar.specs.declared.error.Error.{Error}
use Rattle.vfs_grammar.specs.declared.limits.Limits.{Limits}
use Rattle.codec_calls.specs.Shapes.{bit, nothing, shape_of}
use Rattle.codec_calls.specs.declared.call.CallData.{CallData}
use Rattle.codec_calls.specs.declared.data.AnswerData.{AnswerData}
use Rattle.codec_calls.specs.declared.data.ItemData.{ItemData}
use Rattle.codec_decode.specs.Asked.{IsAsked, Tells, interrupted_by}
use Rattle.codec_decode.specs.declared.asked.Asked.{Asked}
use Rattle.codec_decode.specs.declared.asked.Asked.TheVariants as asked
use Rattle.codec_encode.specs.Listing.{IsOfferedBy, listing_told}
use Rattle.codec_encode.specs.Told.{TellsEcho, TellsOffer, TellsCall, TellsListing, IsShort, AnswersEachCall, AnswersEachListing}
use Rattle.codec_encode.specs.declared.answered.Answered.{Answered}
use Rattle.laws_flight.specs.Table.{TellsAsked}
use Rattle.laws_flight.proofs.OneTurn.{came_back, are_finished_turns}
use Rattle.laws_flight.proofs.Servable.{HasHeader, IsServable, is_servable}
use Rattle.laws_flight.proofs.Table.{are_of, tells_call, interrupted_same}
use Rattle.c_rooms.specs.Codes.{length_of}
use Rattle.nizwarf_codec.specs.Answering.{AnswersOrNot, IsAnswerTold}
use Rattle.nizwarf_codec.specs.Asking.{AsksOrNot, IsAskTold, finished}
use Rattle.nizwarf_codec.specs.Kept.{put_of}
use Rattle.nizwarf_codec.specs.Turns.{IsAskedOrNot, IsAnsweredOrNot, Happened, Suffice, read_of, read_of_directory}
use Rattle.nizwarf_codec.specs.declared.data.ToldData.{ToldData}
use Rattle.nizwarf_codec.proofs.OneTurn.{listing_after}

-- ---- asking

-- a finished request tells no call, and what it interrupts
none_told : (q : List ℕ) (options interrupts room : ℕ) (a : Ask) (before after : Written) (outcome : Result ℕ Error)
    (number : ℕ) (told : CallData)
    → Tells ⊤ q options interrupts room a before (asked.Finished outcome number) after told
    → (told ≡ nothing) × (number ≡ interrupts)
none_told q o n room (Ends reply) before after outcome number told t = (t.2, t.1)
none_told q o n room (asks_call echo c) before after outcome number told t = absurd (let same = t.0 in cc)
none_told q o n room (Lists echo l) before after outcome number told t = absurd (let same = t.0 in cc)
none_told q o n room (WithMemory rest) before after outcome number told (inl t) =
    none_told q o n room rest before after outcome number told t
none_told q o n room (WithMemory rest) before after outcome number told (inr t) = (t.1.2, t.1.1)

module _ (limits : Limits) (options : ℕ) (request : List ℕ) (room : ℕ) (code : ℤ) (c : CallData)
    (told told_after : ToldData) (shown : List ℕ) where
  asked_so : (result : Asked) (before after : Written) → length before.left ≡ room
      → IsAsked limits options request before result after c → IsAskTold result before after code told told_after shown
      → IsAskedOrNot limits options request room code c told told_after shown
  asked_so asked.Call before after all is on =
      let t = are_of limits request options room before after c is all in
      inl (record {
        code_is = on.0;
        is_of = t.0;
        same_options = t.1;
        same_room = t.2;
        same_told = on.1;
        none_shown = on.2;
      })
  asked_so (asked.Finished outcome n) before after all is on =
      let f = are_finished_turns limits options request before after outcome n c is in
      let none = none_told request options (interrupted_by limits request) (length before.left)
      (ask limits options (length before.left) request) before after outcome n c is in
      let first = on.2 in
      let same : first.room ≡ f.room_after = append_cancel_left before.passed _ _ (sym first.kept ∙ f.leaves.kept) in
      inr (inl (record {
        turn = record {
          request = request;
          room = before.left;
          events = [];
          outcome = outcome;
          room_after = f.room_after;
        };
        is_turn = f.turn;
        of_request = refl;
        in_room = all;
        no_event = refl;
        code_is = on.0;
        no_call = none.0;
        told_is = on.1 ∙ ap (λ (n : ℕ). finished outcome n told) (none.1 ∙ interrupted_same limits request);
        shown_is = first.first ∙ ap (take (length_of outcome)) same;
      }))

  pub asked_or_not : AsksOrNot limits options request room code c told told_after shown
      → IsAskedOrNot limits options request room code c told told_after shown
  asked_or_not (inl s) = asked_so s.result s.before s.after s.space s.asked s.passed_on
  asked_or_not (inr n) = inr (inr n)

-- ---- answering

-- what is told to be given back is an entry whose lookups are counted
back_if : (node : ℕ) (fit : Bool) → (node == 0) ≡ false
    → counted (unwrap_or (if fit then None else Some node) 0) ≡ (if fit then None else Some node)
back_if node true is = refl
back_if node false is = ap (λ (b : Bool). if b then None else Some node) is

back_once : (n : ℕ) (reply : Reply) (node : ℕ) (zero : Bool) → (node == 0) ≡ zero
    → counted (unwrap_or (unseen n reply (if zero then None else Some node)) 0)
    ≡ unseen n reply (if zero then None else Some node)
back_once n reply node true is = refl
back_once n (Bytes reply) node false is = back_if node (nat_le (length reply) n) is
back_once n (Refusal error) node false is = refl
back_once n NoReply node false is = refl
back_once n (OpenAfter reply) node false is = refl

back_told : (n : ℕ) (reply : Reply) (kind : Kind) (answer : Answer)
    → counted (unwrap_or (unseen n reply (node_answered kind answer)) 0) ≡ unseen n reply (node_answered kind answer)
back_told n reply Entries (Found entry) = back_once n reply entry.inode (entry.inode == 0) refl
back_told n reply Creations (Created entry handle opening) = back_once n reply entry.inode (entry.inode == 0) refl
back_told n reply kind answer = refl

plus_told : (plus : Bool) → not (bit_and (bit plus 512) 512 == 0) ≡ plus
plus_told true = refl
plus_told false = refl

-- the data of a directory tell it
listing_is : (request : List ℕ) (told : CallData) (echo : Echo) (l : Listing) → l.space ≡ told.room - 16
    → TellsAsked request told (Lists echo l) → TellsEcho told echo × TellsListing told l
listing_is request told echo l space t = (
  record { unique = ap (λ (c : CallData). c.unique) t; readahead = ap (λ (c : CallData). c.readahead) t },
  record {
    kind = ap (λ (c : CallData). c.answer) t;
    listing_is = ap listing_told t
        ∙ ap (λ (plus : Bool). let m : Listing = record l { plus = plus; space = told.room - 16 } in m) (plus_told l.plus)
        ∙ ap (λ (n : ℕ). let m : Listing = record l { space = n } in m) (sym space);
  },
)

-- these data tell what an answer goes by, of what is asked
abbrev GoesBy : CallData → Ask → Type 0
GoesBy c (Ends reply) = ⊥
GoesBy c (asks_call echo asked) = TellsEcho c echo × TellsCall c asked
GoesBy c (Lists echo l) = TellsEcho c echo × TellsListing c l
GoesBy c (WithMemory rest) = GoesBy c rest

offer_same : (told c : CallData) (asked : Call) → c.length ≡ told.length → TellsOffer told asked → TellsOffer c asked
offer_same told c (call.Init offered) same is = same ∙ is
offer_same told c asked same is = tt

-- the directory that is told by these data, and this size and room
abbrev directory_told : CallData → (size room : ℕ) → Listing
directory_told c size room = listing_told (record c { size = size; room = room })

-- so do those of which an answer reads the same
module _ (request : List ℕ) (told c : CallData) (same : read_of c ≡ read_of told)
    (directory : told.answer ≡ 14 → read_of_directory c ≡ read_of_directory told) where
  listing_same : told.answer ≡ 14 → listing_told c ≡ listing_told told
  listing_same is =
      ap (λ (x : CallData). directory_told x c.size c.room) (directory is)
      ∙ ap (λ (x : CallData). directory_told (read_of_directory told) x.size x.room) same

  goes_by : (most : ℕ) (asks : Ask) → IsServable most told.room asks → TellsAsked request told asks → GoesBy c asks
  goes_by most (Ends reply) usual t = t
  goes_by most (asks_call echo asked) usual t =
      let says = tells_call request echo told asked t in (
        record {
          unique = ap (λ (x : CallData). x.unique) same ∙ says.0.unique;
          readahead = ap (λ (x : CallData). x.readahead) same ∙ says.0.readahead;
        },
        record {
          number = ap (λ (x : CallData). x.call) same ∙ says.1.number;
          kind = ap (λ (x : CallData). x.answer) same ∙ says.1.kind;
          size = ap (λ (x : CallData). x.size) same ∙ says.1.size;
          offer = offer_same told c asked (ap (λ (x : CallData). x.length) same) says.1.offer;
        },
      )
  goes_by most (Lists echo l) usual t =
      let says = listing_is request told echo l usual.1 t in (
        record {
          unique = ap (λ (x : CallData). x.unique) same ∙ says.0.unique;
          readahead = ap (λ (x : CallData). x.readahead) same ∙ says.0.readahead;
        },
        record {
          kind = ap (λ (x : CallData). x.answer) same ∙ says.1.kind;
          listing_is = listing_same says.1.kind ∙ says.1.listing_is;
        },
      )
  goes_by most (WithMemory rest) usual t = goes_by most rest usual t

suffices : (limits : Limits) (request : List ℕ) (c : CallData) → Suffice limits request c
    → GoesBy c (ask limits c.options c.room request)
suffices limits request c (told, are, same, directory) =
    subst (λ (o : ℕ). GoesBy c (ask limits o c.room request)) (sym (ap (λ (x : CallData). x.options) same))
    (subst (λ (n : ℕ). GoesBy c (ask limits told.options n request)) (sym (ap (λ (x : CallData). x.room) same))
    (goes_by request told c same directory limits.max_buffer (ask limits told.options told.room request)
    (is_servable limits told.options told.room request) are))

module _ (limits : Limits) (request : List ℕ) (c : CallData) (a : AnswerData) (text : List ℕ) (items : List ItemData)
    (old new : Written) (came : Answered) (told : ToldData) (following room_after : List ℕ)
    (kept : whole new ≡ old.passed ++ room_after) (all : length old.left + length following ≡ c.room)
    (calls : AnswersEachCall limits c a text old (Some came) new)
    (listings : AnswersEachListing limits c a items (with_after old following) (Some came) (with_after new following))
    (gives : told.give_back ≡ came.given) (takes : told.taken ≡ came.taken) (leaves : told.options ≡ came.options) where
  abbrev turn_of : List Event → Turn
  turn_of events = record {
    request = request;
    room = old.left ++ following;
    events = events;
    outcome = came.outcome;
    room_after = room_after ++ following;
  }

  abbrev Turned : Ask → Type 0
  Turned asks =
      (events : List Event) × Happened a text items asks (old.left ++ following) told events
      × Follows (turn_of events) limits c.options asks told.options

  after_is : (r : List ℕ) → whole (with_after new following) ≡ old.passed ++ r → r ≡ room_after ++ following
  after_is r h =
      append_cancel_left old.passed r (room_after ++ following)
      (sym h ∙ whole_after new following ∙ ap (λ (x : List ℕ). x ++ following) kept ∙ append_assoc old.passed room_after following)

  under : (asks : Ask) (events : List Event) → Follows (turn_of events) limits c.options asks came.options
      → Follows (turn_of events) limits c.options asks told.options
  under asks events h = subst (λ (o : ℕ). Follows (turn_of events) limits c.options asks o) (sym leaves) h

  turned : (asks : Ask) → IsServable limits.max_buffer c.room asks → GoesBy c asks → Turned asks
  turned (Ends reply) usual t = absurd t
  turned (asks_call echo asked) usual t =
      let came_so = calls echo asked following t.0 t.1 usual.0 all in
      let reply = reply_of limits echo came.options (kind_of asked) came_so.answer in
      let back = unseen (length (old.left ++ following)) reply (node_answered (kind_of asked) came_so.answer) in
      let b = came_back reply (with_after old following) (with_after new following) came.outcome came_so.replied in
      let back_is : back ≡ counted told.give_back =
      sym (ap counted (gives ∙ came_so.given_is)
      ∙ back_told (length (old.left ++ following)) reply (kind_of asked) came_so.answer) in
      let events : List Event = Called asked came_so.answer ∷ given_back echo.ctx back in
      let follows : Follows (turn_of events) limits c.options (asks_call echo asked) came.options = (
        came_so.answer,
        refl,
        came_so.fits,
        subst (λ (r : List ℕ). IsReplied reply (old.left ++ following) came.outcome r) (after_is b.room_after b.leaves.kept) b.says,
        came_so.options_are,
      ) in (
        events,
        (
          came_so.answer,
          came_so.said,
          ap (λ (o : Option ℕ). Called asked came_so.answer ∷ given_back echo.ctx o) back_is,
          takes ∙ came_so.none_taken,
        ),
        under (asks_call echo asked) events follows,
      )
  turned (Lists echo l) usual t =
      let came_so = listings echo l t.0 t.1 (length-append old.left following ∙ all) in
      let reply = reply_of limits echo came.options (Data l.size) (read_answer came_so.answer came_so.records) in
      let b = came_back reply (with_after old following) (with_after new following) came.outcome came_so.replied in
      let follows : Follows (turn_of came_so.events) limits c.options (Lists echo l) came.options = (
        came_so.records,
        came_so.answer,
        came_so.read,
        came_so.fits,
        subst (λ (r : List ℕ). IsReplied reply (old.left ++ following) came.outcome r) (after_is b.room_after b.leaves.kept) b.says,
        came_so.same_options,
      ) in (
        came_so.events,
        (
          came_so.records,
          came_so.answer,
          came_so.read,
          subst (λ (n : ℕ). IsOfferedBy a items l came_so.events came_so.records came_so.answer came_so.read n) (sym takes)
              came_so.offered,
          gives ∙ came_so.none_given,
        ),
        under (Lists echo l) came_so.events follows,
      )
  turned (WithMemory rest) usual t = let r = turned rest usual t in (r.0, r.1, inl r.2)

-- a room that is told is not too short for the answer to a call that the grammar asks for
not_short : (c : Call) (answer room space following : ℕ) (only : Bool) → (answer == 3) ≡ only
    → answer ≡ (shape_of c).answer → HasHeader room (kind_of c) → space ≡ (if only then min room 16 else room)
    → following ≡ room - space → IsShort (kind_of c) space following → ⊥
not_short (call.Read ctx inode handle space_for size offset owner flags) answer room space following true is same head at b short =
    omega (arith, head, at, short)
not_short (call.Read ctx inode handle space_for size offset owner flags) answer room space following false is same head at b short =
    omega (arith, head, at, short)
not_short c answer room space following true is same head at b short = grind (arith, nat_tests, is, same)
not_short c answer room space following false is same head at b short = omega (arith, at, b, short)

put_within : (only : Bool) (room space : ℕ) → space ≡ (if only then min room 16 else room) → space + (room - space) ≡ room
put_within true room space at = omega (arith, at)
put_within false room space at = omega (arith, at)

-- a directory has all its room
whole_room : (answer room space : ℕ) (only : Bool) → (answer == 3) ≡ only → answer ≡ 14
    → space ≡ (if only then min room 16 else room) → space ≡ room
whole_room answer room space true is same at = absurd (grind (arith, nat_tests, is, same))
whole_room answer room space false is same at = at

listed : (space size most : ℕ) → 16 ≤ space → size ≤ most → most ≤ 134217728
    → (space < 16) ⊎ (2 ^ 32 - 16 ≤ size) → ⊥
listed space size most room small least (inl short) = omega (arith, room, short)
listed space size most room small least (inr long) = omega (arith, small, least, long)

module _ (limits : Limits) (are : AreLimits limits) (c : CallData) (a : AnswerData) (text : List ℕ) (items : List ItemData)
    (old new : Written) (space : length old.left ≡ put_of c c.room) where
  module _ (calls : AnswersEachCall limits c a text old None new)
      (listings : AnswersEachListing limits c a items old None new) where
    of_none : (asks : Ask) → IsServable limits.max_buffer c.room asks → GoesBy c asks → ⊥
    of_none (Ends reply) usual t = t
    of_none (asks_call echo asked) usual t =
        let n : length (replicate (c.room - length old.left) 0) ≡ c.room - length old.left =
        length-replicate (c.room - length old.left) 0 in
        let short = calls echo asked (replicate (c.room - length old.left) 0) t.0 t.1 usual.0
        (ap (λ (n : ℕ). length old.left + n) n ∙ put_within (c.answer == 3) c.room (length old.left) space) in
        not_short asked c.answer c.room (length old.left) _ (c.answer == 3) refl t.1.kind usual.1 space n short
    of_none (Lists echo l) usual t =
        let all = whole_room c.answer c.room (length old.left) (c.answer == 3) refl t.1.kind space in
        listed (length old.left) l.size limits.max_buffer (subst (λ (n : ℕ). 16 ≤ n) (sym all) usual.0) usual.2 are.greatest
        (listings echo l t.0 t.1 all)
    of_none (WithMemory rest) usual t = of_none rest usual t

  module _ (code : ℤ) (told told_after : ToldData) (shown : List ℕ) where
    answered_so : (result : Option Answered) → AnswersEachCall limits c a text old result new
        → AnswersEachListing limits c a items old result new
        → IsAnswerTold result c old new code told told_after shown
        → IsAnsweredOrNot limits c a text items code told told_after shown
    answered_so None calls listings on =
        inr (record {
          why = inr (
            on.0,
            on.1,
            λ request is. of_none calls listings (ask limits c.options c.room request)
                (is_servable limits c.options c.room request) (suffices limits request c is),
          );
          none_shown = on.2;
        })
    answered_so (Some came) calls listings on =
        let first = on.2 in
        inl (record {
          room = old.left;
          outcome = came.outcome;
          room_after = first.room;
          length_is = space;
          turn = λ request following is all.
              let sum = sym (length-append old.left following) ∙ all in
              let r = turned limits request c a text items old new came told_after following first.room first.kept sum calls
              (listing_after limits c a items old new came following (c.answer == 3) refl space sum listings)
              (ap (λ (t : ToldData). t.give_back) on.1) (ap (λ (t : ToldData). t.taken) on.1)
              (ap (λ (t : ToldData). t.options) on.1) (ask limits c.options c.room request)
              (is_servable limits c.options c.room request) (suffices limits request c is) in (
                r.0,
                r.1,
                subst (λ (n : ℕ). Follows (record {
                  request = request;
                  room = old.left ++ following;
                  events = r.0;
                  outcome = came.outcome;
                  room_after = first.room ++ following;
                }) limits c.options (ask limits c.options n request) told_after.options) (sym all) r.2,
              );
          code_is = on.0;
          len = ap (λ (t : ToldData). t.len) on.1;
          put = ap (λ (t : ToldData). t.put) on.1;
          same_interrupts = ap (λ (t : ToldData). t.interrupts) on.1;
          shown_is = first.first;
        })

pub answered_or_not : (limits : Limits) (are : AreLimits limits) (c : CallData) (a : AnswerData) (text : List ℕ)
    (items : List ItemData) (code : ℤ) (told told_after : ToldData) (shown : List ℕ)
    → AnswersOrNot limits c a text items code told told_after shown
    → IsAnsweredOrNot limits c a text items code told told_after shown
answered_or_not limits are c a text items code told told_after shown (inl s) =
    answered_so limits are c a text items s.before s.after s.space code told told_after shown s.result s.calls s.listings s.passed_on
answered_or_not limits are c a text items code told told_after shown (inr n) =
    inr (record { why = inl (n.why, n.entry_back); none_shown = n.none_shown })
