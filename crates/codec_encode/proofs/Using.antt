-- What a caller is told of an answer for which there is all the room that was told.
use Rattle.std.proofs.Common.{◌≡◌, ◌≢◌, ◌==◌, ◌<◌, ℕ, pos, List, [], length, Bool, true, false, nat_le, Option, Some, None, MatchOption, Err, refl, ap, subst, ◌∙◌, inl, inr, arith}
use Rattle.std.specs.Prelude.{bit_and, unwrap_or, if◌then◌else◌}
use Rattle.std.proofs.lemmas.Bool.Decides.{nat_tests}
use Rattle.std.proofs.lemmas.Int.{ints}
use Rattle.vfs_flags.specs.Flags.{known_fs_options}
use Rattle.vfs_wire.specs.Fields.{bytes_of}
use Rattle.vfs_wire.specs.FieldLaws.{length-bytes_of}
use Rattle.vfs_wire.specs.Records.{entry_out}
use Rattle.vfs_wire.specs.declared.entries.EntryOut.{EntryOut}
use Rattle.vfs_segments.specs.Written.{Written}
use Rattle.vfs_files.specs.Calls.{Call, kind_of, Getattr, Lookup, Init, Answer, Failed, Found, Options, FitsEntry, IsAnswer, TimedAttributes, Entries, Agreements, Iterators}
use Rattle.vfs_files.specs.Values.{entry_out_of}
use Rattle.vfs_files.specs.declared.entry.Context.{Context}
use Rattle.vfs_files.specs.declared.entry.Entry.{Entry}
use Rattle.vfs_messages.specs.Rooms.{Replies, with_after}
use Rattle.vfs_grammar.specs.Options.{agreed, options_after}
use Rattle.vfs_grammar.specs.Reply.{Bytes, Echo, reply_of, fault_reply, body_reply}
use Rattle.vfs_grammar.specs.Room.{unseen}
use Rattle.vfs_grammar.specs.Turn.{node_answered}
use Rattle.vfs_grammar.specs.Words.{counted}
use Rattle.vfs_grammar.specs.declared.limits.Limits.{Limits}
use Rattle.vfs_grammar.specs.declared.error.Error.TheVariants.{EncodeMessage}
use Rattle.vfs_grammar.proofs.Rooms.{length-body_reply, put_outcome-full}
use Rattle.codec_calls.specs.Values.{entry_out_for}
use Rattle.codec_calls.specs.declared.call.CallData.{CallData}
use Rattle.codec_calls.specs.declared.data.AnswerData.{AnswerData}
use Rattle.codec_encode.specs.Said.{IsSaid}
use Rattle.codec_encode.specs.Told.{IsShort, TellsEcho, TellsCall, CallIsAnswered, AnswersEachCall}
use Rattle.codec_encode.specs.declared.answered.Answered.{Answered}
use Rattle.vfs_messages.proofs.Rooms.{with_none_after}

module _ (limits : Limits) (told : CallData) (a : AnswerData) (text : List ℕ) (old new : Written) (echo : Echo) (c : Call) where
  at_end : (came : Answered) → CallIsAnswered limits echo c told.options a text (with_after old []) came (with_after new [])
      → CallIsAnswered limits echo c told.options a text old came new
  at_end came h = rw (with_none_after old [] refl, with_none_after new [] refl) at h

  by_result : (result : Option Answered) → (IsShort (kind_of c) (length old.left) 0 → ⊥)
      → MatchOption result (IsShort (kind_of c) (length old.left) 0) (λ came. CallIsAnswered limits echo c told.options a text (with_after old []) came (with_after new []))
      → MatchOption result ⊥ (λ came. CallIsAnswered limits echo c told.options a text old came new)
  by_result None enough h = enough h
  by_result (Some came) enough h = at_end came h

  -- in all the room that was told
  pub in_room : (result : Option Answered) → AnswersEachCall limits told a text old result new → TellsEcho told echo → TellsCall told c
      → kind_of c ≢ Iterators → length old.left ≡ told.room → (IsShort (kind_of c) (length old.left) 0 → ⊥)
      → MatchOption result ⊥ (λ came. CallIsAnswered limits echo c told.options a text old came new)
  in_room result h e t other room enough = by_result result enough (h echo c [] e t other (omega (arith, room)))

-- where each answer is so, it is so
pub in_each : (result : Option Answered) (P Q : Answered → Type 0) → ((came : Answered) → P came → Q came) → MatchOption result ⊥ P → MatchOption result ⊥ Q
in_each None P Q f h = h
in_each (Some came) P Q f h = f came h

-- ---- a fault

refused_by : (a : AnswerData) (text room : List ℕ) (answer : Answer) → a.error ≡ pos 5 → IsSaid a text room TimedAttributes answer → answer ≡ Failed (Some 5)
refused_by a text room (Failed (Some n)) five (inl h) = let same : n ≡ 5 = (let e : pos n ≡ pos 5 = h.1 ∙ five in cc) in ap (λ k. Failed (Some k)) same
refused_by a text room (Failed None) five (inl h) = absurd (omega (arith, ints, five, h.1))
refused_by a text room (Failed fault) five (inr h) = let e = h.0 in cc
refused_by a text room _ five h = let e = h.0 in cc

pub refused : (limits : Limits) (echo : Echo) (ctx : Context) (node : ℕ) (handle : Option ℕ) (options : ℕ) (a : AnswerData) (text : List ℕ) (old new : Written) (came : Answered)
    → a.error ≡ pos 5 → CallIsAnswered limits echo (Getattr ctx node handle) options a text old came new
    → Replies (Bytes (fault_reply (Some 5) echo.unique)) old came.outcome new × (came.options ≡ options) × (came.given ≡ 0) × (came.taken ≡ 0)
refused limits echo ctx node handle options a text old new came five h =
    let is = refused_by a text old.left h.answer five h.said in
    (subst (λ (x : Answer). Replies (reply_of limits echo came.options TimedAttributes x) old came.outcome new) is h.replied, h.options_are, h.given_is, h.none_taken)

-- ---- an entry without room

found_by : (a : AnswerData) (text room : List ℕ) (answer : Answer) → a.error ≡ pos 0 → IsSaid a text room Entries answer
    → (entry : Entry) × (answer ≡ Found entry) × (entry_out_of entry ≡ entry_out_for a.entry)
found_by a text room (Found entry) none h = (entry, refl, h.1)
found_by a text room (Failed fault) none (inl h) = absurd (h.0 none)
found_by a text room (Failed fault) none (inr h) = absurd h.1
found_by a text room _ none h = absurd h.1

unseen_by : (b : Bool) (node space : ℕ) (reply : List ℕ) → (node == 0) ≡ b → nat_le (length reply) space ≡ false
    → unwrap_or (unseen space (Bytes reply) (if b then None else Some node)) 0 ≡ node
unseen_by true node space reply e full = grind (arith, nat_tests)
unseen_by false node space reply e full = rw full refl

pub unfit : (limits : Limits) (echo : Echo) (ctx : Context) (parent : ℕ) (name : List ℕ) (options node : ℕ) (a : AnswerData) (text : List ℕ) (old new : Written) (came : Answered)
    → a.error ≡ pos 0 → a.entry.node ≡ node → length old.left < 144 → CallIsAnswered limits echo (Lookup ctx parent name) options a text old came new
    → (came.given ≡ node) × (came.outcome ≡ Err EncodeMessage)
unfit limits echo ctx parent name options node a text old new came none e small h =
    let found = found_by a text old.left h.answer none h.said in
    let entry = found.0 in
    let body : List ℕ = bytes_of entry_out (entry_out_of entry) in
    let reply = body_reply body echo.unique in
    let fits : FitsEntry entry = subst (λ (x : Answer). IsAnswer Entries x) found.1 h.fits in
    let size : length body ≡ 128 = length-bytes_of entry_out (entry_out_of entry) fits in
    let long : length old.left < length reply = omega (arith, small, size, length-body_reply body echo.unique) in
    let full : nat_le (length reply) (length old.left) ≡ false = grind (arith, nat_tests) in
    let given : came.given ≡ unwrap_or (unseen (length old.left) (Bytes reply) (counted entry.inode)) 0 =
    subst (λ (x : Answer). came.given ≡ unwrap_or (unseen (length old.left) (reply_of limits echo came.options Entries x) (node_answered Entries x)) 0) found.1 h.given_is in
    let replied : Replies (Bytes reply) old came.outcome new = subst (λ (x : Answer). Replies (reply_of limits echo came.options Entries x) old came.outcome new) found.1 h.replied in (
      given ∙ unseen_by (entry.inode == 0) entry.inode (length old.left) reply refl full ∙ ap (λ (o : EntryOut). o.nodeid) found.2 ∙ e,
      replied.says.says ∙ put_outcome-full reply old.left long,
    )

-- ---- options

wanted_by : (a : AnswerData) (text room : List ℕ) (answer : Answer) → a.error ≡ pos 0 → IsSaid a text room Agreements answer
    → answer ≡ Options (bit_and a.count known_fs_options)
wanted_by a text room (Options want) none h = ap Options h.1
wanted_by a text room (Failed fault) none (inl h) = absurd (h.0 none)
wanted_by a text room (Failed fault) none (inr h) = absurd h.1
wanted_by a text room _ none h = absurd h.1

pub agrees : (limits : Limits) (echo : Echo) (offered options want : ℕ) (a : AnswerData) (text : List ℕ) (old new : Written) (came : Answered)
    → a.error ≡ pos 0 → a.count ≡ want → CallIsAnswered limits echo (Init offered) options a text old came new
    → came.options ≡ agreed offered (bit_and want known_fs_options)
agrees limits echo offered options want a text old new came none e h =
    let is = wanted_by a text old.left h.answer none h.said in
    subst (λ (x : Answer). came.options ≡ options_after (Init offered) x options) is h.options_are ∙ ap (λ n. agreed offered (bit_and n known_fs_options)) e
