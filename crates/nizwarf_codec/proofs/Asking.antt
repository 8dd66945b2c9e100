-- What C is told of a request that was asked.
use Rattle.std.proofs.Common.{◌≡◌, ◌≢◌, ◌≤◌, ◌<◌, ◌⊎◌, ◌+◌, ◌-◌, ◌++◌, ◌∙◌, ◌==◌, ℕ, ℤ, pos, Bool, true, false, List, [], length, replicate, Option, None, Some, Result, Ok, Err, IfOk, IsSome, refl, ap, sym, subst, inl, inr, arith, length-append, append_assoc}
use Rattle.std.proofs.lemmas.List.{length-replicate, take-append-le}
use Rattle.std.specs.Prelude.{⊤}
use Rattle.vfs_segments.specs.Written.{Written, whole}
use Rattle.vfs_files.specs.Calls.{Call, Lookup, Kind, Data, kind_of}
use Rattle.vfs_grammar.specs.Ask.{ask}
use Rattle.vfs_grammar.specs.Forms.{Ask, Ends, Asks, Lists, WithMemory}
use Rattle.vfs_grammar.specs.Reply.{Refusal}
use Rattle.vfs_grammar.specs.declared.error.Error.{Error}
use Rattle.vfs_grammar.specs.declared.error.Error.TheVariants.{OutOfMemory}
use Rattle.vfs_grammar.specs.declared.error.Error.TheVariants as error
use Rattle.vfs_grammar.specs.declared.limits.Limits.{Limits}
use Rattle.codec_calls.specs.Shapes.{shape_of}
use Rattle.codec_calls.specs.declared.call.CallData.{CallData}
use Rattle.codec_calls.specs.declared.call.kind.TheConstants as kind
use Rattle.vfs_messages.specs.Rooms.{with_after}
use Rattle.vfs_messages.proofs.Rooms.{whole_after}
use Rattle.codec_decode.specs.Asked.{IsAsked, LiesWithin, Tells, interrupted_by}
use Rattle.codec_decode.specs.declared.asked.Asked.{Asked}
use Rattle.codec_decode.specs.declared.asked.Asked.TheVariants as asked
use Rattle.c_rooms.specs.Codes.{is_asked, length_of, no_memory, outcome_code}
use Rattle.nizwarf_codec.specs.Asking.{AsksOrNot}
use Rattle.nizwarf_codec.specs.Kept.{HasFor, Holds, HoldsAnswer, HoldsFor, TellsOrNot, put_of, put_of_kind}
use Rattle.nizwarf_codec.specs.Rooms.{HasRoomFor}
use Rattle.nizwarf_codec.specs.declared.data.ToldData.{ToldData}
use Rattle.nizwarf_codec.specs.declared.memory.Memory.{Memory}
use Rattle.nizwarf_codec.specs.declared.memory.Part.{Part}
use Rattle.nizwarf_codec.specs.Shown.{AreFirst, first_shown}
use Rattle.nizwarf_codec.proofs.Leaving.{Keeps, replied_keeps, are_first, shorter}

-- how much of a reply is put goes by the kind of answer that its call has
put_by_kind : (c : Call) (len : ℕ) → put_of (shape_of c) len ≡ put_of_kind (kind_of c) len
put_by_kind (Lookup ctx parent name) len = refl
put_by_kind _ len = refl

-- memory for what a request may come to that asks this is memory for any answer to its call
answer_has : (request : List ℕ) (options interrupts room : ℕ) (asks : Ask) (before after : Written) (told : CallData)
    (p : Part) → Tells ⊤ request options interrupts room asks before asked.Call after told
    → HasFor room asks p → HasRoomFor (put_of told told.room) p
answer_has q o n room (Ends reply) before after told p t has = absurd t
answer_has q o n room (Asks echo call) before after told p t has =
    let same : put_of told told.room ≡ put_of (shape_of call) room =
    ap (λ (c : CallData). put_of c c.room) t.1.numbers in
    subst (λ (k : ℕ). HasRoomFor k p) (sym (same ∙ put_by_kind call room)) has
answer_has q o n room (Lists echo l) before after told p t has =
    let same : put_of told told.room ≡ room = ap (λ (c : CallData). put_of c c.room) t.1 in
    subst (λ (k : ℕ). HasRoomFor k p) (sym same) has
answer_has q o n room (WithMemory rest) before after told p (inl t) has =
    answer_has q o n room rest before after told p t has
answer_has q o n room (WithMemory rest) before after told p (inr t) has = absurd t.1

-- memory for that many bytes is memory for fewer
fewer : (n less : ℕ) (p : Part) → less ≤ n → HasRoomFor n p → HasRoomFor less p
fewer n less p within has = (has.0, omega (arith, within, has.1))

pub put_within : (call : CallData) (len : ℕ) (is : Bool) → (call.answer == kind.DATA) ≡ is → put_of call len ≤ len
put_within call len true is = rw is (omega arith)
put_within call len false is = rw is (omega arith)

kind_within : (k : Kind) (len : ℕ) → put_of_kind k len ≤ len
kind_within (Data size) len = omega arith
kind_within _ len = omega arith

-- it is memory for any answer, whatever is asked
has_any : (less : ℕ) (asks : Ask) (p : Part) → HasRoomFor less p → HasFor less asks p
has_any less (Ends reply) p has = tt
has_any less (Asks echo call) p has =
    fewer less (put_of_kind (kind_of call) less) p (kind_within (kind_of call) less) has
has_any less (Lists echo l) p has = has
has_any less (WithMemory rest) p has = has_any less rest p has

pub ready_for : (n less : ℕ) (asks : Ask) (slot : Option Memory) → less ≤ n → Holds n slot → HoldsFor less asks slot
ready_for n less asks slot within holds =
    record {
      memory = holds.memory;
      is = holds.is;
      answer = has_any less asks holds.memory.answers (fewer n less holds.memory.answers within holds.has);
    }

some_is : (slot : Option Memory) → IsSome slot → (m : Memory) × (slot ≡ Some m)
some_is (Some m) some = (m, refl)
some_is None some = absurd (let e = some in cc)

-- what a slot has for requests stays, where its memory and the room for answers do
pub stays_for : (less : ℕ) (asks : Ask) (old new : Option Memory) → (IsSome old → IsSome new)
    → ((n : ℕ) → Holds n old → Holds n new) → HoldsFor less asks old → HoldsFor less asks new
stays_for less (Ends reply) old new some keeps h =
    let s = some_is new (some (rw h.is refl)) in record { memory = s.0; is = s.1; answer = tt }
stays_for less (Asks echo call) old new some keeps h =
    let k = keeps (put_of_kind (kind_of call) less) (record { memory = h.memory; is = h.is; has = h.answer }) in
    record { memory = k.memory; is = k.is; answer = k.has }
stays_for less (Lists echo l) old new some keeps h =
    let k = keeps less (record { memory = h.memory; is = h.is; has = h.answer }) in
    record { memory = k.memory; is = k.is; answer = k.has }
stays_for less (WithMemory rest) old new some keeps h =
    let k = stays_for less rest old new some keeps (record { memory = h.memory; is = h.is; answer = h.answer }) in
    record { memory = k.memory; is = k.is; answer = k.answer }

-- a writer through which a request was finished keeps what it had passed
finished_keeps : (request : List ℕ) (options interrupts room : ℕ) (asks : Ask) (before after : Written)
    (outcome : Result ℕ Error) (interrupted : ℕ) (call : CallData)
    → Tells ⊤ request options interrupts room asks before (asked.Finished outcome interrupted) after call
    → Keeps before after
finished_keeps q o n room (Ends reply) before after outcome i call t =
    replied_keeps reply before after outcome t.0
finished_keeps q o n room (Asks echo asked) before after outcome i call t = absurd (let e = t.0 in cc)
finished_keeps q o n room (Lists echo l) before after outcome i call t = absurd (let e = t.0 in cc)
finished_keeps q o n room (WithMemory rest) before after outcome i call (inl t) =
    finished_keeps q o n room rest before after outcome i call t
finished_keeps q o n room (WithMemory rest) before after outcome i call (inr t) =
    replied_keeps (Refusal OutOfMemory) before after outcome t.1.0

-- an outcome that isn't for want of memory has another number
pub other_number : (outcome : Result ℕ Error) → outcome ≢ Err OutOfMemory → outcome_code outcome ≡ no_memory → ⊥
other_number (Ok len) other is = cc
other_number (Err error.OutOfMemory) other is = other refl
other_number (Err error.DecodeMessage) other is = cc
other_number (Err error.EncodeMessage) other is = cc
other_number (Err error.FlushMessage) other is = cc
other_number (Err error.MissingParameter) other is = cc
other_number (Err error.InvalidCString) other is = cc
other_number (Err error.InvalidCString2) other is = cc
other_number (Err error.InvalidHeaderLength) other is = cc
other_number (Err (error.InvalidXattrSize sizes)) other is = cc
other_number (Err error.MissingExtension) other is = cc

-- a request is told finished so, with this length
abbrev told_by : ToldData → (len interrupts : ℕ) → ToldData
told_by told len interrupts = record told { len = len; put = len; interrupts = interrupts }

length_within : (outcome : Result ℕ Error) (space : ℕ) → IfOk outcome (λ len. len ≤ space) → length_of outcome ≤ space
length_within (Ok len) space h = h
length_within (Err error) space h = omega arith

-- what of a room is shown lies in the beginning that a writer had
first_of_room : (count space start : ℕ) (before after : Written) (following bytes : List ℕ) → length before.left ≡ space → count ≤ space
    → Keeps before after → AreFirst count before after bytes
    → AreFirst count (with_after before following) (with_after after following) bytes
first_of_room count space start before after following bytes long within keeps first =
    let n : length first.room ≡ length before.left = omega (arith, ap length (sym first.kept ∙ keeps.leaves.kept), keeps.leaves.same_length, length-append before.passed first.room, length-append before.passed keeps.room_after) in
    record {
      room = first.room ++ following;
      kept = whole_after after following ∙ ap (λ (x : List ℕ). x ++ following) first.kept ∙ append_assoc before.passed first.room following;
      first = first.first ∙ sym (take-append-le count first.room following (omega (arith, n, long, within)));
    }

module _ (limits : Limits) (options : ℕ) (request : List ℕ) (room : ℕ) (call_after : CallData)
    (told : ToldData) (before after : Written) (result : Asked)
    (is : (following : List ℕ) → length before.left + length following ≡ room
    → IsAsked limits options request (with_after before following) result (with_after after following) call_after)
    (within : LiesWithin (length before.left) result) (enough : length before.left ≤ room) where
  -- zeros stand for the room that the writer hasn't
  abbrev zeros : List ℕ
  zeros = replicate (room - length before.left) 0

  all : length before.left + length zeros ≡ room
  all =
      let n : length zeros ≡ room - length before.left = length-replicate (room - length before.left) 0 in
      omega (arith, n, enough)

  space : length (before.left ++ zeros) ≡ room
  space = length-append before.left zeros ∙ all

  asked_as : (r : Asked) → result ≡ r → IsAsked limits options request (with_after before zeros) r (with_after after zeros) call_after
  asked_as r e = subst (λ (r : Asked). IsAsked limits options request (with_after before zeros) r (with_after after zeros) call_after) e (is zeros all)

  -- a call is told
  pub told_call : result ≡ asked.Call → AsksOrNot limits options request room is_asked call_after told told []
  told_call call_is =
      inl (record {
        before = with_after before zeros;
        space = space;
        result = asked.Call;
        after = with_after after zeros;
        asked = asked_as asked.Call call_is;
        passed_on = (refl, refl, refl);
      })

  -- memory for what the request may come to is memory for any answer to the call that is told
  pub told_has : (p : Part) → result ≡ asked.Call → HasFor room (ask limits options room request) p
      → HasRoomFor (put_of call_after call_after.room) p
  told_has p call_is has =
      answer_has request options (interrupted_by limits request) (length (before.left ++ zeros))
      (ask limits options (length (before.left ++ zeros)) request) (with_after before zeros) (with_after after zeros)
      call_after p (asked_as asked.Call call_is)
      (subst (λ (n : ℕ). HasFor n (ask limits options n request) p) (sym space) has)

  -- a writer through which a request was finished keeps its room
  pub finished_room : (outcome : Result ℕ Error) (interrupts : ℕ) → result ≡ asked.Finished outcome interrupts
      → Keeps before after
  finished_room outcome interrupts finished =
      shorter before after zeros (finished_keeps request options (interrupted_by limits request) (length (before.left ++ zeros))
      (ask limits options (length (before.left ++ zeros)) request) (with_after before zeros) (with_after after zeros) outcome interrupts call_after
      (asked_as (asked.Finished outcome interrupts) finished))

  -- a request is finished
  pub told_finished : (code : ℤ) (start len : ℕ) (outcome : Result ℕ Error) (interrupts : ℕ)
      → result ≡ asked.Finished outcome interrupts
      → start ≡ length before.passed → length before.lengths ≡ 1
      → code ≡ outcome_code outcome → len ≡ length_of outcome
      → AsksOrNot limits options request room code call_after told (told_by told len interrupts)
      (first_shown after.lengths (whole after) start len)
  told_finished code start len outcome interrupts finished at one number length_is =
      let n = length_of outcome in
      let tells = asked_as (asked.Finished outcome interrupts) finished in
      let keeps = shorter before after zeros (finished_keeps request options (interrupted_by limits request) (length (before.left ++ zeros))
      (ask limits options (length (before.left ++ zeros)) request) (with_after before zeros) (with_after after zeros) outcome interrupts call_after
      tells) in
      let lies : LiesWithin (length before.left) (asked.Finished outcome interrupts) = subst (LiesWithin (length before.left)) finished within in
      let first = first_of_room n (length before.left) start before after zeros _ refl (length_within outcome (length before.left) lies) keeps
      (are_first n start before after keeps at one) in
      inl (record {
        before = with_after before zeros;
        space = space;
        result = asked.Finished outcome interrupts;
        after = with_after after zeros;
        asked = tells;
        passed_on = (
          number,
          ap (λ (k : ℕ). told_by told k interrupts) length_is,
          rw length_is first,
        );
      })

-- a call is told, or none for want of memory
pub told_or_not : (limits : Limits) (options : ℕ) (request : List ℕ) (room : ℕ) (code other : ℤ)
    (call call_after : CallData) (told : ToldData) (shown : List ℕ) (kept : Type 0) → other ≡ code
    → AsksOrNot limits options request room is_asked call told told [] → shown ≡ []
    → TellsOrNot code call call_after kept
    → AsksOrNot limits options request room other call_after told told shown
told_or_not limits options request room code other call call_after told shown kept same asks none (inl t) =
    rw (same, t.0, t.1, none) asks
told_or_not limits options request room code other call call_after told shown kept same asks none (inr n) =
    inr (record { why = inl (same ∙ n.0); no_call = n.1; same_told = refl; none_shown = none })

pub code_of_tells : (code : ℤ) (call call_after : CallData) (kept : Type 0) → TellsOrNot code call call_after kept
    → (code ≡ is_asked) ⊎ (code ≡ no_memory)
code_of_tells code call call_after kept (inl t) = inl t.0
code_of_tells code call call_after kept (inr n) = inr n.0

pub call_of_tells : (code : ℤ) (call call_after : CallData) (kept : Type 0) → TellsOrNot code call call_after kept
    → code ≡ is_asked → call_after ≡ call
call_of_tells code call call_after kept (inl t) asks = t.1
call_of_tells code call call_after kept (inr n) asks = absurd (let e = n.0 in cc)

-- where it is told, its answer's memory is kept
pub kept_for : (code : ℤ) (call call_after : CallData) (p : Part)
    → TellsOrNot code call call_after (HasRoomFor (put_of call call.room) p) → code ≡ is_asked
    → HasRoomFor (put_of call_after call_after.room) p
kept_for code call call_after p (inl t) asks =
    subst (λ (c : CallData). HasRoomFor (put_of c c.room) p) (sym t.1) t.2
kept_for code call call_after p (inr n) asks = absurd (let e = n.0 in cc)

-- the same of a slot
pub held_for : (code : ℤ) (call call_after : CallData) (slot : Option Memory)
    → TellsOrNot code call call_after (HoldsAnswer call slot) → code ≡ is_asked → HoldsAnswer call_after slot
held_for code call call_after slot (inl t) asks = subst (λ (c : CallData). HoldsAnswer c slot) (sym t.1) t.2
held_for code call call_after slot (inr n) asks = absurd (let e = n.0 in cc)

not_small : (k n : ℕ) → k ≤ 10 → 10 < n → pos k ≡ pos n → ⊥
not_small k n small above is = let e : k ≡ n = cc in omega (arith, e, small, above)

-- no outcome has a number above 10: those tell other things
pub no_outcome : (outcome : Result ℕ Error) (n : ℕ) → 10 < n → outcome_code outcome ≡ pos n → ⊥
no_outcome (Ok len) n above is = not_small 0 n (omega arith) above is
no_outcome (Err error.DecodeMessage) n above is = not_small 1 n (omega arith) above is
no_outcome (Err error.EncodeMessage) n above is = not_small 2 n (omega arith) above is
no_outcome (Err error.FlushMessage) n above is = not_small 3 n (omega arith) above is
no_outcome (Err error.MissingParameter) n above is = not_small 4 n (omega arith) above is
no_outcome (Err error.InvalidCString) n above is = not_small 5 n (omega arith) above is
no_outcome (Err error.InvalidCString2) n above is = not_small 6 n (omega arith) above is
no_outcome (Err error.InvalidHeaderLength) n above is = not_small 7 n (omega arith) above is
no_outcome (Err (error.InvalidXattrSize sizes)) n above is = not_small 8 n (omega arith) above is
no_outcome (Err error.MissingExtension) n above is = not_small 9 n (omega arith) above is
no_outcome (Err error.OutOfMemory) n above is = not_small 10 n (omega arith) above is

-- so none has that of a call
pub no_call : (outcome : Result ℕ Error) → outcome_code outcome ≡ is_asked → ⊥
no_call outcome is = no_outcome outcome 15 (omega arith) is

-- a writer with that much room
abbrev blank : ℕ → Written
blank room = record { passed = []; left = replicate room 0; held_at = 0; held = 0; lengths = [] }

-- a call is told at once, whatever a writer has
pub told_at_once : (limits : Limits) (options : ℕ) (request : List ℕ) (room : ℕ) (call_after : CallData) (told : ToldData)
    → ((w after : Written) → length w.left ≡ room → IsAsked limits options request w asked.Call after call_after)
    → AsksOrNot limits options request room is_asked call_after told told []
told_at_once limits options request room call_after told is =
    let space = length-replicate room 0 in
    inl (record {
      before = blank room;
      space = space;
      result = asked.Call;
      after = blank room;
      asked = is (blank room) (blank room) space;
      passed_on = (refl, refl, refl);
    })

-- a slot that has memory for what comes of the request has it for any answer to that call
pub holds_at_once : (limits : Limits) (options : ℕ) (request : List ℕ) (room : ℕ) (call_after : CallData)
    (slot : Option Memory)
    → ((w after : Written) → length w.left ≡ room → IsAsked limits options request w asked.Call after call_after)
    → HoldsFor room (ask limits options room request) slot → HoldsAnswer call_after slot
holds_at_once limits options request room call_after slot is holds =
    let space = length-replicate room 0 in
    record {
      memory = holds.memory;
      is = holds.is;
      has = answer_has request options (interrupted_by limits request) (length (blank room).left)
          (ask limits options (length (blank room).left) request) (blank room) (blank room) call_after
          holds.memory.answers (is (blank room) (blank room) space)
          (subst (λ (n : ℕ). HasFor n (ask limits options n request) holds.memory.answers) (sym space) holds.answer);
    }
