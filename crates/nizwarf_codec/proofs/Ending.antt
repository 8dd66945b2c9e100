-- Requests that are finished at their ask or are not asked; and what is told of INIT, DESTROY and directories.
use Rattle.std.proofs.Common.{◌≡◌, ◌≢◌, ◌⊎◌, ◌≤◌, ◌^◌, ◌∙◌, ℕ, ℤ, pos, List, [], length, take, Option, Some, None, MatchOption, IfSome, Result, Ok, Err, refl, ap, sym, subst, inl, inr, arith}
use Rattle.std.specs.Prelude.{⊤, bit_and}
use Rattle.vfs_flags.specs.Flags.{known_fs_options}
use Rattle.vfs_flags.specs.Numbers.{opcode_of}
use Rattle.vfs_wire.specs.Fields.{little, number}
use Rattle.vfs_segments.specs.Written.{Written}
use Rattle.vfs_files.specs.Calls.{Call, Init, Destroy, kind_of, Iterators}
use Rattle.vfs_grammar.specs.Ask.{ask}
use Rattle.vfs_grammar.specs.Forms.{Ask, Ends, Asks as asks_call, Lists, WithMemory}
use Rattle.vfs_grammar.specs.Options.{agreed}
use Rattle.vfs_grammar.specs.Reply.{Bytes, Echo, NoReply}
use Rattle.vfs_grammar.specs.Samples.{nobody, not_served_reply}
use Rattle.vfs_grammar.specs.declared.error.Error.{Error}
use Rattle.vfs_grammar.specs.declared.limits.Limits.{Limits}
use Rattle.vfs_messages.specs.Rooms.{Writes}
use Rattle.codec_calls.specs.Shapes.{nothing}
use Rattle.codec_calls.specs.declared.call.CallData.{CallData}
use Rattle.codec_calls.specs.declared.data.AnswerData.{AnswerData}
use Rattle.codec_calls.specs.declared.data.ItemData.{ItemData}
use Rattle.codec_calls.specs.declared.call.number.TheConstants as number_is
use Rattle.codec_calls.specs.declared.call.kind.TheConstants as kind
use Rattle.codec_decode.specs.Asked.{IsAsked, IsFinished, Tells, interrupted_by}
use Rattle.codec_decode.specs.Checked.{Judges}
use Rattle.codec_decode.specs.Memory.{MayWant}
use Rattle.codec_decode.specs.declared.asked.Asked.{Asked}
use Rattle.codec_decode.specs.declared.asked.Asked.TheVariants as asked
use Rattle.codec_decode.specs.declared.checked.Checked.TheVariants as checked
use Rattle.codec_encode.proofs.Using.{agrees, in_room}
use Rattle.codec_encode.specs.Told.{CallIsAnswered, IsShort, TellsCall, TellsEcho}
use Rattle.codec_encode.specs.declared.answered.Answered.{Answered}
use Rattle.c_rooms.specs.Codes.{ok, no_memory, too_long, is_asked, outcome_code, length_of}
use Rattle.nizwarf_codec.specs.Answering.{AnswersOrNot, IsAnswerTold}
use Rattle.nizwarf_codec.specs.Asking.{AsksOrNot, IsAskTold}
use Rattle.nizwarf_codec.specs.Checking.{Checks, checked_code, interrupts_of}
use Rattle.nizwarf_codec.specs.Kept.{put_of}
use Rattle.nizwarf_codec.specs.UsesRest.{IsCallOf, interrupt_of_7, request_of_99}
use Rattle.nizwarf_codec.specs.declared.data.ToldData.{ToldData}
use Rattle.nizwarf_codec.proofs.Asking.{no_outcome}
use Rattle.nizwarf_codec.proofs.Lookup.{limits, first_of}

-- ---- a request that is finished, with a reply

asks-unknown : (space : ℕ) → ask limits 0 space request_of_99 ≡ Ends (Bytes not_served_reply)
unfolding number little opcode_of
asks-unknown space = refl

-- what is told of it
abbrev pub IsNotServed : (code : ℤ) → (call : CallData) → (told_after : ToldData) → (shown : List ℕ) → Type 0
IsNotServed code call told_after shown =
    (call ≡ nothing)
    × (((code ≡ ok) × (shown ≡ not_served_reply) × (told_after.len ≡ 16) × (told_after.put ≡ 16)) ⊎ (code ≡ no_memory))

finished_so : (interrupts : ℕ) (before after : Written) (result : Asked) (call : CallData) (code : ℤ)
    (told told_after : ToldData) (shown : List ℕ) → length before.left ≡ 4096
    → IsFinished (Bytes not_served_reply) interrupts before result after call
    → IsAskTold result before after code told told_after shown → IsNotServed code call told_after shown
finished_so i before after asked.Call call code told told_after shown room f on = absurd f
finished_so i before after (asked.Finished outcome n) call code told told_after shown room f on =
    let w : Writes (Bytes not_served_reply) before outcome after = f.0 in
    let fits : outcome ≡ Ok 16 = w.says.says ∙ rw room refl in
    let first : take 16 w.room_after ≡ not_served_reply = ap (take 16) w.says.leaves ∙ rw room refl in
    let len : length_of outcome ≡ 16 = ap length_of fits in
    let bytes : shown ≡ not_served_reply =
    first_of before after _ shown w.room_after on.2 w.leaves.kept ∙ ap (λ (k : ℕ). take k w.room_after) len ∙ first in
    (f.2, inl (on.0 ∙ ap outcome_code fits, bytes, ap (λ (t : ToldData). t.len) on.1 ∙ len, ap (λ (t : ToldData). t.put) on.1 ∙ len))

pub not_served : (request : List ℕ) (code : ℤ) (call : CallData) (told told_after : ToldData) (shown : List ℕ)
    → request ≡ request_of_99 → AsksOrNot limits 0 request 4096 code call told told_after shown
    → IsNotServed code call told_after shown
not_served request code call told told_after shown is (inl s) =
    let of_99 : IsAsked limits 0 request_of_99 s.before s.result s.after call =
    subst (λ (q : List ℕ). IsAsked limits 0 q s.before s.result s.after call) is s.asked in
    let by = interrupted_by limits request_of_99 in
    let tells : Tells ⊤ request_of_99 0 by (length s.before.left) (Ends (Bytes not_served_reply)) s.before s.result s.after call =
    subst (λ (a : Ask). Tells ⊤ request_of_99 0 by (length s.before.left) a s.before s.result s.after call)
    (asks-unknown (length s.before.left)) of_99 in
    finished_so by s.before s.after s.result call code told told_after shown s.space tells s.passed_on
not_served request code call told told_after shown is (inr s) = (s.no_call, inr (lacks s.why))
  where
    lacks : (code ≡ no_memory) ⊎ ((code ≡ too_long) × (2 ^ 64 ≤ length request)) → code ≡ no_memory
    lacks (inl none) = none
    lacks (inr long) = let size : length request ≡ 40 = ap length is in absurd (omega (arith, long.1, size))

-- ---- any request

-- one that is finished tells no call
none_told : (wanted : Type 0) (q : List ℕ) (options interrupts room : ℕ) (a : Ask) (before after : Written)
    (outcome : Result ℕ Error) (n : ℕ) (call : CallData)
    → Tells wanted q options interrupts room a before (asked.Finished outcome n) after call → call ≡ nothing
none_told wanted q options i room (Ends reply) before after outcome n call t = t.2
none_told wanted q options i room (asks_call echo c) before after outcome n call t = absurd (let e = t.0 in cc)
none_told wanted q options i room (Lists echo l) before after outcome n call t = absurd (let e = t.0 in cc)
none_told wanted q options i room (WithMemory rest) before after outcome n call (inl t) =
    none_told wanted q options i room rest before after outcome n call t
none_told wanted q options i room (WithMemory rest) before after outcome n call (inr t) = t.1.2

-- no outcome is told by the code of pieces that are too long
never_long : (outcome : Result ℕ Error) → outcome_code outcome ≡ too_long → ⊥
never_long outcome is = no_outcome outcome 13 (omega arith) is

no_call_is_long : is_asked ≡ too_long → ⊥
no_call_is_long is = cc

no_call_lacks : is_asked ≡ no_memory → ⊥
no_call_lacks is = cc

module _ (some : Limits) (options : ℕ) (request : List ℕ) (room : ℕ) (code : ℤ) (call : CallData)
    (told told_after : ToldData) (shown : List ℕ) where
  no_call_by : (before after : Written) (result : Asked) → IsAsked some options request before result after call
      → IsAskTold result before after code told told_after shown → code ≡ no_memory → call ≡ nothing
  no_call_by before after asked.Call is on lacks = absurd (no_call_lacks (sym on.0 ∙ lacks))
  no_call_by before after (asked.Finished outcome n) is on lacks =
      none_told ⊤ request options (interrupted_by some request) (length before.left)
      (ask some options (length before.left) request) before after outcome n call is

  pub no_call_without : AsksOrNot some options request room code call told told_after shown → code ≡ no_memory
      → call ≡ nothing
  no_call_without (inl s) lacks = no_call_by s.before s.after s.result s.asked s.passed_on lacks
  no_call_without (inr s) lacks = s.no_call

  not_long : (before after : Written) (result : Asked) → IsAskTold result before after code told told_after shown
      → code ≡ too_long → ⊥
  not_long before after asked.Call on long = no_call_is_long (sym on.0 ∙ long)
  not_long before after (asked.Finished outcome n) on long = never_long outcome (sym on.0 ∙ long)

  -- what is told of pieces that are too long together
  pub too_long_together : AsksOrNot some options request room code call told told_after shown → code ≡ too_long
      → (2 ^ 64 ≤ length request) × (call ≡ nothing) × (told_after ≡ told) × (shown ≡ [])
  too_long_together (inl s) long = absurd (not_long s.before s.after s.result s.passed_on long)
  too_long_together (inr s) long = (most s.why, s.no_call, s.same_told, s.none_shown)
    where
      most : (code ≡ no_memory) ⊎ ((code ≡ too_long) × (2 ^ 64 ≤ length request)) → 2 ^ 64 ≤ length request
      most (inl none) = absurd (let e = sym none ∙ long in cc)
      most (inr both) = both.1

-- ---- an INTERRUPT that is checked

asks-interrupt : (space : ℕ) → ask limits 0 space interrupt_of_7 ≡ Ends NoReply
unfolding number little opcode_of
asks-interrupt space = refl

means : interrupted_by limits interrupt_of_7 ≡ 7
unfolding number little opcode_of
means = refl

pub interrupt_checked : (request : List ℕ) (code : ℤ) (call : CallData) (interrupts : ℕ) → request ≡ interrupt_of_7
    → Checks limits 0 request 4096 code call interrupts → (code ≡ ok) × (interrupts ≡ 7) × (call ≡ nothing)
interrupt_checked request code call interrupts is k =
    let left : k.reader.left ≡ interrupt_of_7 = k.whole.left ∙ is in
    let wanted = MayWant limits 0 4096 k.reader in
    let by = interrupted_by limits interrupt_of_7 in
    let of_7 : Judges wanted interrupt_of_7 0 by 4096 (ask limits 0 4096 interrupt_of_7) k.result call =
    subst (λ (q : List ℕ). Judges wanted q 0 (interrupted_by limits q) 4096 (ask limits 0 4096 q) k.result call) left k.checked in
    let judges : (k.result ≡ checked.Finished by) × (call ≡ nothing) =
    subst (λ (a : Ask). Judges wanted interrupt_of_7 0 by 4096 a k.result call) (asks-interrupt 4096) of_7 in
    (k.says_code ∙ ap checked_code judges.0, k.says_number ∙ ap interrupts_of judges.0 ∙ means, judges.1)

-- ---- the options after an answer

-- what a reply repeats of these data
abbrev pub echo_of : CallData → Echo
echo_of call = record { unique = call.unique; max_readahead = call.readahead; ctx = nobody }

tells_echo : (call : CallData) → TellsEcho call (echo_of call)
tells_echo call = record { unique = refl; readahead = refl }

module _ (call : CallData) (a : AnswerData) (text : List ℕ) (items : List ItemData) (code : ℤ)
    (told told_after : ToldData) (shown : List ℕ) where
  module _ (c : Call) (n : ℕ) (tells : TellsCall call c) (other : kind_of c ≢ Iterators)
      (all : put_of call call.room ≡ call.room)
      (after : (old new : Written) (came : Answered)
      → CallIsAnswered limits (echo_of call) c call.options a text old came new → came.options ≡ n)
      (enough : (space : ℕ) → IsShort (kind_of c) space 0 → ⊥) where
    of_result : (before after_it : Written) (result : Option Answered)
        → MatchOption result ⊥ (λ came. CallIsAnswered limits (echo_of call) c call.options a text before came after_it)
        → IsAnswerTold result call before after_it code told told_after shown → told_after.options ≡ n
    of_result before after_it None h on = absurd h
    of_result before after_it (Some came) h on =
        ap (λ (t : ToldData). t.options) on.1 ∙ after before after_it came h

    pub options_then : AnswersOrNot limits call a text items code told told_after shown → code ≡ ok
        → told_after.options ≡ n
    options_then (inl s) fine =
        of_result s.before s.after s.result
        (in_room limits call a text s.before s.after (echo_of call) c s.result s.calls (tells_echo call) tells other
        (s.space ∙ all) (enough (length s.before.left))) s.passed_on
    options_then (inr s) fine = absurd (let e = sym s.why ∙ fine in cc)

  by_taken : (before after : Written) (result : Option Answered) → IfSome result (λ came. came.taken ≤ length items)
      → IsAnswerTold result call before after code told told_after shown → code ≡ ok → told_after.taken ≤ length items
  by_taken before after None within on fine = absurd (let e = sym on.0 ∙ fine in cc)
  by_taken before after (Some came) within on fine =
      subst (λ (k : ℕ). k ≤ length items) (sym (ap (λ (t : ToldData). t.taken) on.1)) within

  pub few_taken : AnswersOrNot limits call a text items code told told_after shown → code ≡ ok
      → told_after.taken ≤ length items
  few_taken (inl s) fine = by_taken s.before s.after s.result s.within s.passed_on fine
  few_taken (inr s) fine = absurd (let e = sym s.why ∙ fine in cc)

tells_init : (call : CallData) → IsCallOf number_is.INIT kind.INIT call → TellsCall call (Init call.length)
tells_init call is = record { number = is.number_is; kind = is.kind_is; size = is.no_size; offer = refl }

tells_destroy : (call : CallData) → IsCallOf number_is.DESTROY kind.NONE call → TellsCall call Destroy
tells_destroy call is = record { number = is.number_is; kind = is.kind_is; size = is.no_size; offer = tt }

pub agreed_then : (call : CallData) (a : AnswerData) (text : List ℕ) (items : List ItemData) (want : ℕ) (code : ℤ)
    (told told_after : ToldData) (shown : List ℕ) → IsCallOf number_is.INIT kind.INIT call → a.error ≡ pos 0
    → a.count ≡ want → AnswersOrNot limits call a text items code told told_after shown → code ≡ ok
    → told_after.options ≡ agreed call.length (bit_and want known_fs_options)
agreed_then call a text items want code told told_after shown is fine count =
    options_then call a text items code told told_after shown (Init call.length) _ (tells_init call is) (λ e. cc)
    (rw is.kind_is refl)
    (λ old new came h. agrees limits (echo_of call) call.length call.options want a text old new came fine count h)
    (λ space short. omega (arith, short))

pub none_agreed_then : (call : CallData) (a : AnswerData) (text : List ℕ) (items : List ItemData) (code : ℤ)
    (told told_after : ToldData) (shown : List ℕ) → IsCallOf number_is.DESTROY kind.NONE call
    → AnswersOrNot limits call a text items code told told_after shown → code ≡ ok → told_after.options ≡ 0
none_agreed_then call a text items code told told_after shown is =
    options_then call a text items code told told_after shown Destroy 0 (tells_destroy call is) (λ e. cc)
    (rw is.kind_is refl) (λ old new came h. h.options_are) (λ space short. omega (arith, short))
