-- What the promises say of any request that is asked, and of any call that is answered.
use Rattle.std.proofs.Common.{◌≡◌, ◌≢◌, ◌⊎◌, ◌≤◌, ◌+◌, ◌-◌, ◌++◌, ◌==◌, ◌∙◌, if◌then◌else◌, Bool, false, true, nat_le, ℕ, ℤ, pos, List, [], ◌∷◌, length, replicate, take, Option, None, Some, Result, Ok, Err, refl, ap, sym, subst, inl, inr, arith, length-append}
use Rattle.std.proofs.lemmas.List.{length-replicate}
use Rattle.vfs_files.specs.Calls.{Answer, Kind, Agreements, Data, Quiet, Untold, kind_of, read_answer, Getattr, TimedAttributes, Done, Failed, Options, Found, Attributes, Put, Opened, Created, Statistics, Text, Count, Offset, Wrote}
use Rattle.vfs_files.specs.Runs.{Event, Called}
use Rattle.vfs_files.specs.declared.entry.Context.{Context}
use Rattle.vfs_grammar.specs.Ask.{ask}
use Rattle.vfs_grammar.specs.Forms.{Ask, Asks, Ends, Lists, WithMemory}
use Rattle.vfs_grammar.specs.Listing.{Listing, IsDirectory, given_back}
use Rattle.vfs_grammar.specs.Reply.{Bytes, Echo, NoReply, OpenAfter, Refusal, Reply, reply_of}
use Rattle.vfs_grammar.specs.Room.{IsReplied}
use Rattle.vfs_grammar.specs.Turn.{Follows, Turn, IsTurn}
use Rattle.vfs_grammar.specs.declared.error.Error.{Error}
use Rattle.vfs_grammar.specs.declared.error.Error.TheVariants as error
use Rattle.vfs_grammar.specs.declared.limits.Limits.{Limits}
use Rattle.codec_calls.specs.Shapes.{nothing}
use Rattle.codec_calls.specs.declared.call.CallData.{CallData}
use Rattle.codec_calls.specs.declared.data.AnswerData.{AnswerData}
use Rattle.codec_calls.specs.declared.call.kind.TheConstants as kind
use Rattle.codec_calls.specs.declared.data.ItemData.{ItemData}
use Rattle.codec_encode.specs.Listing.{IsOfferedBy}
use Rattle.codec_encode.specs.Said.{IsSaid, IsFailed}
use Rattle.laws_flight.specs.Table.{AreOf, interrupted}
use Rattle.c_rooms.specs.Codes.{is_asked, no_memory, not_asked, too_long, outcome_code, length_of}
use Rattle.nizwarf_codec.specs.Answering.{entry_of}
use Rattle.nizwarf_codec.specs.Kept.{put_of}
use Rattle.nizwarf_codec.specs.Turns.{Happened, IsAnsweredOrNot, IsAskedOrNot, Suffice}
use Rattle.nizwarf_codec.specs.declared.data.ToldData.{ToldData}
use Rattle.nizwarf_codec.proofs.Asking.{no_call, no_outcome, put_within}
use Rattle.nizwarf_codec.proofs.Concluding.{long_asked, none_asked}

none_of : (P Q : Type 0) → P ⊎ Q → (P → ⊥) → (Q → ⊥) → ⊥
none_of P Q (inl p) f g = f p
none_of P Q (inr q) f g = g q

-- no outcome is told by the code of a call that is none that was asked
never_unasked : (outcome : Result ℕ Error) → outcome_code outcome ≡ not_asked → ⊥
never_unasked outcome is = no_outcome outcome 16 (omega arith) is

module _ (limits : Limits) (options : ℕ) (request : List ℕ) (room : ℕ) (code : ℤ) (call : CallData)
    (told told_after : ToldData) (shown : List ℕ) where
  -- a call is told, and nothing besides
  pub only_told : IsAskedOrNot limits options request room code call told told_after shown → call ≢ nothing
      → (code ≡ is_asked) × (told_after ≡ told) × (shown ≡ [])
  only_told (inl t) some = (t.code_is, t.same_told, t.none_shown)
  only_told (inr (inl f)) some = absurd (some f.no_call)
  only_told (inr (inr n)) some = absurd (some n.no_call)

  -- where one is told, it is the request's
  pub call_told : IsAskedOrNot limits options request room code call told told_after shown → code ≡ is_asked
      → AreOf limits request call
  call_told (inl t) is = t.is_of
  call_told (inr (inl f)) is = absurd (no_call f.turn.outcome (sym f.code_is ∙ is))
  call_told (inr (inr n)) is = absurd (none_of _ _ n.why (none_asked code is) (λ e. long_asked code is e.0))

  -- a turn without a call, and what is told of it
  abbrev pub Ended : Type 0
  Ended =
      (turn : Turn) × IsTurn limits options turn options × (turn.request ≡ request) × (length turn.room ≡ room)
      × (turn.events ≡ []) × (code ≡ outcome_code turn.outcome)
      × (told_after.len ≡ length_of turn.outcome) × (told_after.put ≡ length_of turn.outcome)
      × (told_after.interrupts ≡ interrupted limits request) × (told_after.options ≡ told.options)
      × (shown ≡ take (length_of turn.outcome) turn.room_after)

  pub ended : IsAskedOrNot limits options request room code call told told_after shown → code ≢ is_asked
      → code ≢ no_memory → code ≢ too_long → Ended
  ended (inl t) called lacks long = absurd (called t.code_is)
  ended (inr (inl f)) called lacks long = (
    f.turn,
    f.is_turn,
    f.of_request,
    f.in_room,
    f.no_event,
    f.code_is,
    ap (λ (t : ToldData). t.len) f.told_is,
    ap (λ (t : ToldData). t.put) f.told_is,
    ap (λ (t : ToldData). t.interrupts) f.told_is,
    ap (λ (t : ToldData). t.options) f.told_is,
    f.shown_is,
  )
  ended (inr (inr n)) called lacks long = absurd (none_of _ _ n.why lacks (λ e. long e.0))

module _ (limits : Limits) (call : CallData) (a : AnswerData) (text : List ℕ) (items : List ItemData) (code : ℤ)
    (told told_after : ToldData) (shown : List ℕ) where
  -- what is told of one outcome
  abbrev pub IsToldOf : Type 0
  IsToldOf =
      (outcome : Result ℕ Error) × (room_after : List ℕ) × (code ≡ outcome_code outcome)
      × (told_after.len ≡ length_of outcome) × (told_after.put ≡ put_of call (length_of outcome))
      × (told_after.interrupts ≡ told.interrupts)
      × (shown ≡ take (put_of call (length_of outcome)) room_after)

  pub told_of_one : IsAnsweredOrNot limits call a text items code told told_after shown → code ≢ no_memory
      → code ≢ not_asked → IsToldOf
  told_of_one (inl s) lacks unasked =
      (s.outcome, s.room_after, s.code_is, s.len, s.put, s.same_interrupts, s.shown_is)
  told_of_one (inr u) lacks unasked = absurd (none_of _ _ u.why (λ n. lacks n.0) (λ n. unasked n.0))

  -- nothing is told of data that suffice for no request
  pub of_none : IsAnsweredOrNot limits call a text items code told told_after shown → code ≡ not_asked
      → (told_after ≡ told) × (shown ≡ []) × ((request : List ℕ) → Suffice limits request call → ⊥)
  of_none (inl s) is = absurd (never_unasked s.outcome (sym s.code_is ∙ is))
  of_none (inr u) is = by u.why
    where
      by : ((code ≡ no_memory) × (told_after ≡ record told { give_back = entry_of call a; taken = 0 }))
          ⊎ ((code ≡ not_asked) × (told_after ≡ told) × ((request : List ℕ) → Suffice limits request call → ⊥))
          → (told_after ≡ told) × (shown ≡ []) × ((request : List ℕ) → Suffice limits request call → ⊥)
      by (inl none) = absurd (let e = sym none.0 ∙ is in cc)
      by (inr none) = (none.1, u.none_shown, none.2)

-- ---- a call without memory for its answer

-- what comes back of an answer is no refusal
abbrev IsNoRefusal : Reply → Type 0
IsNoRefusal (Refusal error) = ⊥
IsNoRefusal reply = Unit {0}

no_refusal : (limits : Limits) (echo : Echo) (options : ℕ) (kind : Kind) (answer : Answer)
    → IsNoRefusal (reply_of limits echo options kind answer)
no_refusal limits echo options Agreements answer = tt
no_refusal limits echo options Quiet answer = tt
no_refusal limits echo options Untold Done = tt
no_refusal limits echo options (Data size) answer = tt
no_refusal limits echo options kind answer = tt

by_length : (fit : Bool) (n : ℕ) (outcome : Result ℕ Error) → outcome ≡ (if fit then Ok n else Err error.EncodeMessage)
    → outcome_code outcome ≡ no_memory → ⊥
by_length true n outcome is lacks = let e = sym (ap outcome_code is) ∙ lacks in cc
by_length false n outcome is lacks = let e = sym (ap outcome_code is) ∙ lacks in cc

never_lacks : (reply : Reply) (room : List ℕ) (outcome : Result ℕ Error) (room_after : List ℕ) → IsNoRefusal reply
    → IsReplied reply room outcome room_after → outcome_code outcome ≡ no_memory → ⊥
never_lacks (Refusal error) room outcome room_after none replied lacks = none
never_lacks NoReply room outcome room_after none replied lacks = let e = sym (ap outcome_code replied.0) ∙ lacks in cc
never_lacks (Bytes reply) room outcome room_after none replied lacks =
    by_length (nat_le (length reply) (length room)) (length reply) outcome replied.says lacks
never_lacks (OpenAfter reply) room outcome room_after none replied lacks =
    let e = sym (ap outcome_code replied.says) ∙ lacks in cc

module _ (limits : Limits) (options after : ℕ) (a : AnswerData) (text : List ℕ) (items : List ItemData) (turn : Turn)
    (told_after : ToldData) where
  -- something is seen of the file system
  some_event : (asks : Ask) → Happened a text items asks turn.room told_after turn.events → turn.events ≡ [] → ⊥
  some_event (Ends reply) h none = h
  some_event (Asks echo call) h none = let e = sym h.2 ∙ none in cc
  some_event (Lists echo l) (records, answer, inl unopened, offered, back) none = let e = sym unopened.1 ∙ none in cc
  some_event (Lists echo l) (records, answer, inr opened, offered, back) none = let e = sym opened.1 ∙ none in cc
  some_event (WithMemory rest) h none = some_event rest h none

  -- so the turn is no refusal for want of memory
  has_memory : (asks : Ask) → Happened a text items asks turn.room told_after turn.events
      → Follows turn limits options asks after → outcome_code turn.outcome ≡ no_memory → ⊥
  has_memory (Ends reply) h f lacks = h
  has_memory (Asks echo call) h f lacks =
      never_lacks (reply_of limits echo after (kind_of call) f.0) turn.room turn.outcome turn.room_after
      (no_refusal limits echo after (kind_of call) f.0) f.3 lacks
  has_memory (Lists echo l) h f lacks =
      never_lacks (reply_of limits echo after (Data l.size) (read_answer f.1 f.0)) turn.room turn.outcome turn.room_after
      (no_refusal limits echo after (Data l.size) (read_answer f.1 f.0)) f.4 lacks
  has_memory (WithMemory rest) h (inl f) lacks = has_memory rest h f lacks
  has_memory (WithMemory rest) h (inr f) lacks = some_event rest h f.0

-- whatever stood after the bytes of the room that are put
abbrev following : CallData → List ℕ → List ℕ
following call room = replicate (call.room - length room) 0

whole : (call : CallData) (room : List ℕ) → length room ≡ put_of call call.room
    → length (room ++ following call room) ≡ call.room
whole call room long =
    let n : ℕ = call.room - length room in
    let rest : List ℕ = replicate n 0 in
    let within : put_of call call.room ≤ call.room = put_within call call.room (call.answer == kind.DATA) refl in
    let zeros : length rest ≡ n = length-replicate n 0 in
    let sum : length (room ++ rest) ≡ length room + length rest = length-append room rest in
    omega (arith, zeros, sum, within, long)

module _ (limits : Limits) (call : CallData) (a : AnswerData) (text : List ℕ) (items : List ItemData) (code : ℤ)
    (told told_after : ToldData) (shown request : List ℕ) (are : Suffice limits request call) where
  -- what is told then: the entry that is to be given back, and nothing else
  abbrev pub IsLacking : Type 0
  IsLacking = (told_after ≡ record told { give_back = entry_of call a; taken = 0 }) × (shown ≡ [])

  pub lacking : IsAnsweredOrNot limits call a text items code told told_after shown → code ≡ no_memory → IsLacking
  lacking (inl s) lacks =
      let all = whole call s.room s.length_is in
      let it = s.turn request (following call s.room) are all in
      let turn : Turn = record {
        request = request;
        room = s.room ++ following call s.room;
        events = it.0;
        outcome = s.outcome;
        room_after = s.room_after ++ following call s.room;
      } in
      let asks = ask limits call.options call.room request in
      let follows : Follows turn limits call.options asks told_after.options =
      subst (λ (n : ℕ). Follows turn limits call.options (ask limits call.options n request) told_after.options) all it.2 in
      absurd (has_memory limits call.options told_after.options a text items turn told_after asks it.1 follows
      (sym s.code_is ∙ lacks))
  lacking (inr u) lacks = by u.why
    where
      by : ((code ≡ no_memory) × (told_after ≡ record told { give_back = entry_of call a; taken = 0 }))
          ⊎ ((code ≡ not_asked) × (told_after ≡ told) × ((request : List ℕ) → Suffice limits request call → ⊥))
          → IsLacking
      by (inl none) = (none.1, u.none_shown)
      by (inr none) = absurd (let e = sym none.0 ∙ lacks in cc)

-- ---- a call that is answered by an error

module _ (a : AnswerData) (text room : List ℕ) (some : a.error ≢ pos 0) where
  -- the file system's answer to a GETATTR was that error
  said_error : (answer : Answer) → IsSaid a text room TimedAttributes answer
      → (fault : Option ℕ) × IsFailed a fault × (answer ≡ Failed fault)
  said_error (Failed fault) (inl failed) = (fault, failed, refl)
  said_error (Failed fault) (inr unfit) = absurd (some unfit.0)
  said_error Done h = absurd (some h.0)
  said_error (Options want) h = absurd (some h.0)
  said_error (Found entry) h = absurd (some h.0)
  said_error (Attributes attributes timeout) h = absurd (some h.0)
  said_error (Put bytes) h = absurd (some h.0)
  said_error (Opened handle options) h = absurd (some h.0)
  said_error (Created entry handle options) h = absurd (some h.0)
  said_error (Statistics statistics) h = absurd (some h.0)
  said_error (Text bytes) h = absurd (some h.0)
  said_error (Count n) h = absurd (some h.0)
  said_error (Offset n) h = absurd (some h.0)
  said_error (Wrote n) h = absurd (some h.0)

none_offered : (a : AnswerData) (items : List ItemData) (l : Listing) (events : List Event) (records : List ℕ)
    (answer : Result ℕ (Option ℕ)) (read : IsDirectory l events records answer) (taken : ℕ) → a.error ≢ pos 0
    → IsOfferedBy a items l events records answer read taken → taken ≡ 0
none_offered a items l events records answer (inl unopened) taken some offered = offered.1
none_offered a items l events records answer (inr opened) taken some offered = absurd (some offered.0)

module _ (limits : Limits) (call : CallData) (a : AnswerData) (text : List ℕ) (items : List ItemData) (code : ℤ)
    (told told_after : ToldData) (shown request : List ℕ) (echo : Echo) (some : a.error ≢ pos 0)
    (are : Suffice limits request call) where
  abbrev pub IsErrorsTurn : Context → (inode : ℕ) → (handle : Option ℕ) → Type 0
  IsErrorsTurn ctx inode handle =
      (turn : Turn) × (fault : Option ℕ) × IsTurn limits call.options turn told_after.options
      × (turn.request ≡ request) × IsFailed a fault
      × (turn.events ≡ Called (Getattr ctx inode handle) (Failed fault)
      ∷ given_back echo.ctx (if told_after.give_back == 0 then None else Some told_after.give_back))
      × (told_after.taken ≡ 0)

  pub error_answered : (ctx : Context) (inode : ℕ) (handle : Option ℕ)
      → ask limits call.options call.room request ≡ Asks echo (Getattr ctx inode handle)
      → IsAnsweredOrNot limits call a text items code told told_after shown → code ≢ no_memory → code ≢ not_asked
      → IsErrorsTurn ctx inode handle
  error_answered ctx inode handle asks (inl s) lacks unasked =
      let it = s.turn request (following call s.room) are (whole call s.room s.length_is) in
      let h = subst (λ (q : Ask). Happened a text items q (s.room ++ following call s.room) told_after it.0) asks it.1 in
      let e = said_error a text (s.room ++ following call s.room) some h.0 h.1 in (
        record {
          request = request;
          room = s.room ++ following call s.room;
          events = it.0;
          outcome = s.outcome;
          room_after = s.room_after ++ following call s.room;
        },
        e.0,
        it.2,
        refl,
        e.1,
        h.2 ∙ ap (λ (answer : Answer). Called (Getattr ctx inode handle) answer
            ∷ given_back echo.ctx (if told_after.give_back == 0 then None else Some told_after.give_back)) e.2,
        h.3,
      )
  error_answered ctx inode handle asks (inr u) lacks unasked =
      absurd (none_of _ _ u.why (λ n. lacks n.0) (λ n. unasked n.0))

  pub error_listed : (l : Listing) → ask limits call.options call.room request ≡ Lists echo l
      → IsAnsweredOrNot limits call a text items code told told_after shown → code ≢ no_memory → code ≢ not_asked
      → (told_after.taken ≡ 0) × (told_after.give_back ≡ 0)
  error_listed l lists (inl s) lacks unasked =
      let it = s.turn request (following call s.room) are (whole call s.room s.length_is) in
      let h = subst (λ (q : Ask). Happened a text items q (s.room ++ following call s.room) told_after it.0) lists it.1 in
      (none_offered a items l it.0 h.0 h.1 h.2 told_after.taken some h.3, h.4)
  error_listed l lists (inr u) lacks unasked =
      absurd (none_of _ _ u.why (λ n. lacks n.0) (λ n. unasked n.0))
