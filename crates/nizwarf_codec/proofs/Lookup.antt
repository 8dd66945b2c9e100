-- A LOOKUP of a name: its call, and what is copied out of the reply.
use Rattle.std.proofs.Common.{◌≡◌, ◌≢◌, ◌⊎◌, ◌≤◌, ◌^◌, ◌∙◌, ℕ, ℤ, pos, List, [], ◌∷◌, ◌++◌, length, take, Bool, true, false, nat_le, Option, Some, None, MatchOption, Result, Ok, refl, ap, sym, subst, inl, inr, arith}
use Rattle.std.proofs.lemmas.Int.{ints}
use Rattle.std.proofs.lemmas.List.{append_cancel_left}
use Rattle.std.specs.Prelude.{⊤}
use Rattle.vfs_flags.specs.Numbers.{opcode_of}
use Rattle.vfs_wire.specs.Records.{entry_out, in_header}
use Rattle.vfs_wire.specs.Fields.{little, number, value_of, bytes_of}
use Rattle.vfs_segments.specs.Written.{Written, whole}
use Rattle.vfs_files.specs.Calls.{Call, Lookup, Answer, Failed, Found, Entries}
use Rattle.vfs_files.specs.Values.{context_of, entry_out_of}
use Rattle.vfs_files.specs.declared.entry.Entry.{Entry}
use Rattle.vfs_grammar.specs.Ask.{ask}
use Rattle.vfs_grammar.specs.Forms.{Ask, Asks as asks_call, WithMemory}
use Rattle.vfs_grammar.specs.Limits.{AreLimits}
use Rattle.vfs_grammar.specs.Reply.{Echo, echo_of, reply_of, body_reply}
use Rattle.vfs_grammar.specs.Room.{IsReplied}
use Rattle.vfs_grammar.specs.Words.{put_outcome}
use Rattle.vfs_grammar.specs.Samples.{lookup_of_a}
use Rattle.vfs_grammar.specs.declared.error.Error.{Error}
use Rattle.vfs_grammar.specs.declared.limits.Limits.{Limits}
use Rattle.vfs_messages.specs.Rooms.{Replies}
use Rattle.codec_calls.specs.declared.call.CallData.{CallData}
use Rattle.codec_calls.specs.declared.data.AnswerData.{AnswerData}
use Rattle.codec_calls.specs.declared.data.ItemData.{ItemData}
use Rattle.codec_decode.specs.Asked.{IsAsked, IsTold, Tells, interrupted_by}
use Rattle.codec_decode.specs.declared.asked.Asked.{Asked}
use Rattle.codec_decode.specs.declared.asked.Asked.TheVariants as asked
use Rattle.codec_encode.specs.Fitting.{answer_offered}
use Rattle.codec_encode.specs.Said.{IsSaid}
use Rattle.codec_encode.specs.Told.{TellsEcho, TellsCall, CallIsAnswered}
use Rattle.codec_encode.specs.declared.answered.Answered.{Answered}
use Rattle.codec_encode.proofs.Using.{in_room}
use Rattle.c_rooms.specs.Codes.{ok, no_memory, is_asked, outcome_code, length_of}
use Rattle.nizwarf_codec.specs.Answering.{AnswersIn, AnswersOrNot, IsAnswerTold}
use Rattle.nizwarf_codec.specs.Asking.{AsksOrNot, IsAskTold}
use Rattle.nizwarf_codec.specs.Kept.{put_of}
use Rattle.nizwarf_codec.specs.Shown.{AreFirst}
use Rattle.nizwarf_codec.specs.Uses.{IsLookupOfA, no_such_name}
use Rattle.nizwarf_codec.specs.declared.data.SessionData.{SessionData}
use Rattle.nizwarf_codec.specs.declared.data.ToldData.{ToldData}
use Rattle.nizwarf_codec.proofs.Answering.{answered_as, other_kind}

abbrev pub usual_session : SessionData
usual_session = record { options = 0; page_size = 4096; max_buffer = 1048576 }

abbrev pub limits : Limits
limits = record { page_size = 4096; max_buffer = 1048576 }

pub are_limits : AreLimits limits
are_limits = record { page = omega arith; least = omega arith; greatest = omega arith }

abbrev pub echo : Echo
echo = echo_of (value_of in_header lookup_of_a)

abbrev pub lookup : Call
lookup = Lookup (context_of (value_of in_header lookup_of_a)) 1 (0x61 ∷ [])

pub asks : (space : ℕ) → ask limits 0 space lookup_of_a ≡ WithMemory (asks_call echo lookup)
unfolding number little opcode_of
asks space = refl

is_nine : echo.unique ≡ 9
unfolding number little
is_nine = refl

-- the call that is told
pub told_lookup : (call : CallData) → IsTold lookup_of_a 0 4096 echo lookup call → IsLookupOfA call
told_lookup call is = record {
  unique = ap (λ (c : CallData). c.unique) is.numbers ∙ is_nine;
  readahead = ap (λ (c : CallData). c.readahead) is.numbers;
  options = ap (λ (c : CallData). c.options) is.numbers;
  room = ap (λ (c : CallData). c.room) is.numbers;
  number = ap (λ (c : CallData). c.call) is.numbers;
  kind = ap (λ (c : CallData). c.answer) is.numbers;
  size = ap (λ (c : CallData). c.size) is.numbers;
  node = ap (λ (c : CallData). c.node) is.numbers;
  name = is.places;
}

-- what is told of the LOOKUP
abbrev pub IsLookedUp : (code : ℤ) → (call : CallData) → (told told_after : ToldData) → (shown : List ℕ)
    → Type 0
IsLookedUp code call told told_after shown =
    ((code ≡ is_asked) × IsLookupOfA call × (told_after ≡ told) × (shown ≡ [])) ⊎ (code ≡ no_memory)

by_asked : (interrupts space : ℕ) (before after : Written) (result : Asked) (call : CallData)
    (code : ℤ) (told told_after : ToldData) (shown : List ℕ) → space ≡ 4096 → length before.left ≡ space
    → Tells ⊤ lookup_of_a 0 interrupts (length before.left) (WithMemory (asks_call echo lookup)) before result after call
    → IsAskTold result before after code told told_after shown
    → IsLookedUp code call told told_after shown
by_asked i space before after result call code told told_after shown room is (inl t) on =
    let p : IsAskTold asked.Call before after code told told_after shown =
    subst (λ (r : Asked). IsAskTold r before after code told told_after shown) t.0 on in
    let told_is : IsTold lookup_of_a 0 4096 echo lookup call =
    subst (λ (n : ℕ). IsTold lookup_of_a 0 n echo lookup call) (is ∙ room) t.1 in
    inl (p.0, told_lookup call told_is, p.1, p.2)
by_asked i space before after (asked.Finished outcome n) call code told told_after shown r is (inr t) on =
    inr (on.0 ∙ ap outcome_code t.1.0.0)
by_asked i space before after asked.Call call code told told_after shown room is (inr t) on = absurd t.1

pub looked_up : (request : List ℕ) (code : ℤ) (call_after : CallData) (told told_after : ToldData)
    (shown : List ℕ) → request ≡ lookup_of_a
    → AsksOrNot limits 0 request 4096 code call_after told told_after shown
    → IsLookedUp code call_after told told_after shown
looked_up request code call_after told told_after shown is (inl s) =
    let of_a : IsAsked limits 0 lookup_of_a s.before s.result s.after call_after =
    subst (λ (q : List ℕ). IsAsked limits 0 q s.before s.result s.after call_after) is s.asked in
    let by = interrupted_by limits lookup_of_a in
    let tells : Tells ⊤ lookup_of_a 0 by (length s.before.left) (WithMemory (asks_call echo lookup)) s.before s.result s.after call_after =
    subst (λ (a : Ask). Tells ⊤ lookup_of_a 0 by (length s.before.left) a s.before s.result s.after call_after)
    (asks (length s.before.left)) of_a in
    by_asked by 4096 s.before s.after s.result call_after code told told_after shown refl s.space tells
    s.passed_on
looked_up request code call_after told told_after shown is (inr s) = refused s.why
  where
    refused : (code ≡ no_memory) ⊎ ((code ≡ pos 13) × (2 ^ 64 ≤ length request))
        → IsLookedUp code call_after told told_after shown
    refused (inl none) = inr none
    refused (inr long) =
        let size : length request ≡ 42 = ap length is in
        absurd (omega (arith, long.1, size))

-- unless memory was wanted, the call is told
pub asked_for : (code : ℤ) (call : CallData) (told told_after : ToldData) (shown : List ℕ)
    → IsLookedUp code call told told_after shown → code ≢ no_memory → (code ≡ is_asked) × IsLookupOfA call
asked_for code call told told_after shown (inl t) has = (t.0, t.1)
asked_for code call told told_after shown (inr none) has = absurd (has none)

-- ---- its answer

tells_echo : (call : CallData) → IsLookupOfA call → TellsEcho call echo
tells_echo call is = record { unique = is.unique ∙ sym is_nine; readahead = is.readahead }

tells_call : (call : CallData) → IsLookupOfA call → TellsCall call lookup
tells_call call is = record { number = is.number; kind = is.kind; size = is.size; offer = tt }

-- the answer that says ENOENT
refused_by : (a : AnswerData) (text room : List ℕ) (answer : Answer) → a.error ≡ pos 2
    → IsSaid a text room Entries answer → answer ≡ Failed (Some 2)
refused_by a text room (Failed (Some n)) two (inl h) =
    let same : n ≡ 2 = (let e : pos n ≡ pos 2 = h.1 ∙ two in cc) in ap (λ k. Failed (Some k)) same
refused_by a text room (Failed None) two (inl h) = absurd (omega (arith, ints, two, h.1))
refused_by a text room (Failed fault) two (inr h) = let e = h.0 in cc
refused_by a text room _ two h = let e = h.0 in cc

-- the bytes of the reply
reply_is : (after : ℕ) (room : List ℕ) (outcome : Result ℕ Error) (room_after : List ℕ)
    → length room ≡ 4096
    → IsReplied (reply_of limits echo after Entries (Failed (Some 2))) room outcome room_after
    → (outcome ≡ Ok 16) × (take 16 room_after ≡ no_such_name)
unfolding number little
reply_is after room outcome room_after long is =
    (is.says ∙ rw long refl, ap (take 16) is.leaves ∙ rw long refl)

-- the LOOKUP was answered, and this came back
abbrev AnsweredSo : CallData → AnswerData → (text : List ℕ) → (before after : Written) → Answered
    → Type 0
AnsweredSo call a text before after came =
    CallIsAnswered limits echo lookup call.options a text before came after

-- the reply with this answer came back
abbrev Came : (options : ℕ) → Answer → (before : Written) → Result ℕ Error → (after : Written)
    → Type 0
Came options answer before outcome after =
    Replies (reply_of limits echo options Entries answer) before outcome after

-- the first bytes of the room that came back
pub first_of : (before after : Written) (count : ℕ) (bytes room_after : List ℕ)
    → AreFirst count before after bytes → whole after ≡ before.passed ++ room_after
    → bytes ≡ take count room_after
first_of before after count bytes room_after is kept =
    is.first ∙ ap (take count) (append_cancel_left before.passed is.room room_after (sym is.kept ∙ kept))

-- and its text is not looked at
pub fits_lookup : (call : CallData) (a : AnswerData) (text : List ℕ) (items : List ItemData) (code : ℤ)
    (told told_after : ToldData) (shown : List ℕ) (l : Limits) → IsLookupOfA call
    → AnswersOrNot l call (answer_offered call a text) text items code told told_after shown
    → AnswersOrNot l call a text items code told told_after shown
fits_lookup call a text items code told told_after shown l is answers =
    answered_as l call _ a text items code told told_after shown (other_kind call a text (rw (is.kind) refl)) answers

-- what is told of the answer
abbrev IsRefused : (told_after : ToldData) → (shown : List ℕ) → Type 0
IsRefused told_after shown =
    (shown ≡ no_such_name) × ((told_after.len ≡ 16) × (told_after.put ≡ 16)) × (told_after.give_back ≡ 0)

of_came : (call : CallData) (a : AnswerData) (text : List ℕ) (before after : Written) (came : Answered)
    (code : ℤ) (told told_after : ToldData) (shown : List ℕ) → IsLookupOfA call → a.error ≡ pos 2
    → length before.left ≡ 4096 → CallIsAnswered limits echo lookup call.options a text before came after
    → IsAnswerTold (Some came) call before after code told told_after shown → IsRefused told_after shown
of_came call a text before after came code told told_after shown is two space h on =
    let no : h.answer ≡ Failed (Some 2) = refused_by a text before.left h.answer two h.said in
    let w : Came came.options (Failed (Some 2)) before came.outcome after =
    subst (λ (x : Answer). Came came.options x before came.outcome after) no h.replied in
    let r = reply_is came.options before.left came.outcome w.room_after space w.says in
    let put : put_of call 16 ≡ 16 = rw is.kind refl in
    let puts : put_of call (length_of came.outcome) ≡ 16 =
    ap (λ (o : Result ℕ Error). put_of call (length_of o)) r.0 ∙ put in
    let given : came.given ≡ 0 = h.given_is ∙ rw no refl in (
      first_of before after _ shown w.room_after on.2 w.leaves.kept
          ∙ ap (λ (n : ℕ). take n w.room_after) puts ∙ r.1,
      (
        ap (λ (t : ToldData). t.len) on.1 ∙ ap length_of r.0,
        ap (λ (t : ToldData). t.put) on.1 ∙ puts,
      ),
      ap (λ (t : ToldData). t.give_back) on.1 ∙ given,
    )

by_result : (call : CallData) (a : AnswerData) (text : List ℕ) (before after : Written)
    (result : Option Answered) (code : ℤ) (told told_after : ToldData) (shown : List ℕ)
    → IsLookupOfA call → a.error ≡ pos 2 → length before.left ≡ 4096
    → MatchOption result ⊥ (AnsweredSo call a text before after)
    → IsAnswerTold result call before after code told told_after shown → code ≡ ok
    → IsRefused told_after shown
by_result call a text before after None code told told_after shown is two space h on fine = absurd h
by_result call a text before after (Some came) code told told_after shown is two space h on fine =
    of_came call a text before after came code told told_after shown is two space h on

-- all the room that was told
space_of : (call : CallData) (n : ℕ) → IsLookupOfA call → n ≡ put_of call call.room → n ≡ 4096
space_of call n is e = e ∙ rw (is.kind, is.room) refl

answered_in : (call : CallData) (a : AnswerData) (text : List ℕ) (items : List ItemData) (code : ℤ)
    (told told_after : ToldData) (shown : List ℕ) → IsLookupOfA call
    → (s : AnswersIn limits call a text items code told told_after shown)
    → MatchOption s.result ⊥ (AnsweredSo call a text s.before s.after)
answered_in call a text items code told told_after shown is s =
    let space = space_of call (length s.before.left) is s.space in
    in_room limits call a text s.before s.after echo lookup s.result s.calls (tells_echo call is)
    (tells_call call is) (λ e. cc) (space ∙ sym is.room) (λ short. omega (arith, short))

pub refused : (call : CallData) (a : AnswerData) (text : List ℕ) (items : List ItemData) (code : ℤ)
    (told told_after : ToldData) (shown : List ℕ) → IsLookupOfA call → a.error ≡ pos 2
    → AnswersOrNot limits call a text items code told told_after shown → code ≡ ok
    → IsRefused told_after shown
refused call a text items code told told_after shown is two (inl s) fine =
    by_result call a text s.before s.after s.result code told told_after shown is two
    (space_of call (length s.before.left) is s.space)
    (answered_in call a text items code told told_after shown is s) s.passed_on fine
refused call a text items code told told_after shown is two (inr s) fine = cc (s.why, fine)

-- ---- an entry for which there is no memory

found_by : (a : AnswerData) (text room : List ℕ) (answer : Answer) → a.error ≡ pos 0
    → IsSaid a text room Entries answer → (entry : Entry) × (answer ≡ Found entry)
found_by a text room (Found entry) none h = (entry, refl)
found_by a text room (Failed fault) none (inl h) = absurd (h.0 none)
found_by a text room (Failed fault) none (inr h) = absurd h.1
found_by a text room _ none h = absurd h.1

-- a reply that was put, or cut, wants no memory
put_or_cut : (reply room : List ℕ) (fits : Bool) → nat_le (length reply) (length room) ≡ fits
    → outcome_code (put_outcome reply room) ≡ no_memory → ⊥
put_or_cut reply room true fits is = let e : ok ≡ no_memory = rw fits at is in cc
put_or_cut reply room false fits is = let e : pos 2 ≡ no_memory = rw fits at is in cc

no_want : (call : CallData) (a : AnswerData) (text : List ℕ) (before after : Written)
    (result : Option Answered) (code : ℤ) (told told_after : ToldData) (shown : List ℕ)
    → a.error ≡ pos 0
    → MatchOption result ⊥ (AnsweredSo call a text before after)
    → IsAnswerTold result call before after code told told_after shown → code ≡ no_memory → ⊥
no_want call a text before after None code told told_after shown fine h on want = h
no_want call a text before after (Some came) code told told_after shown fine h on want =
    let found = found_by a text before.left h.answer fine h.said in
    let w : Came came.options (Found found.0) before came.outcome after =
    subst (λ (x : Answer). Came came.options x before came.outcome after) found.1 h.replied in
    put_or_cut (body_reply (bytes_of entry_out (entry_out_of found.0)) echo.unique) before.left _ refl
    (sym (ap outcome_code w.says.says) ∙ sym on.0 ∙ want)

pub entry_back : (call : CallData) (a : AnswerData) (text : List ℕ) (items : List ItemData) (node : ℕ)
    (code : ℤ) (told told_after : ToldData) (shown : List ℕ) → IsLookupOfA call → a.error ≡ pos 0
    → a.entry.node ≡ node → AnswersOrNot limits call a text items code told told_after shown
    → code ≡ no_memory → told_after.give_back ≡ node
entry_back call a text items node code told told_after shown is fine node_is (inl s) want =
    absurd (no_want call a text s.before s.after s.result code told told_after shown fine
    (answered_in call a text items code told told_after shown is s) s.passed_on want)
entry_back call a text items node code told told_after shown is fine node_is (inr s) want =
    ap (λ (t : ToldData). t.give_back) s.entry_back ∙ rw (is.kind, fine) node_is
