-- What follows of every turn, by the cases of what its request asks.
use Rattle.std.proofs.Common.{◌≡◌, ◌≢◌, ◌≤◌, ◌<◌, ◌+◌, ℕ, Bool, true, false, bit_or, List, [], ◌∷◌, ◌++◌, length, take, drop, nat_le, nat_lt, if◌then◌else◌, Option, Some, None, Result, Ok, Err, IsOk, refl, ap, sym, ◌∙◌, inl, inr, arith, subst}
use Rattle.std.specs.Int.{bit_at}
use Rattle.std.proofs.lemmas.List.{take-append-le, take-take}
use Rattle.std.proofs.lemmas.Nat.Bits.{bit_at_and, bit_at_or}
use Rattle.std.proofs.lemmas.Bool.Decides.{nat_tests}
use Rattle.vfs_flags.specs.Numbers.{enomem, enosys, opcode_of}
use Rattle.vfs_flags.specs.Flags.{supported_fs_options}
use Rattle.vfs_flags.specs.declared.opcode.Opcode.{Opcode}
use Rattle.vfs_wire.specs.Fields.{bytes_of, value_of}
use Rattle.vfs_wire.specs.Records.{in_header, out_header, init_out}
use Rattle.vfs_wire.specs.declared.headers.InHeader.{InHeader}
use Rattle.vfs_files.specs.Calls.{Call, Kind, Init, Destroy, Readdir, Answer, Failed, Options, Data, Iterators, kind_of, read_answer, IsAnswer, IsFault}
use Rattle.vfs_files.specs.Runs.{Event, Called}
use Rattle.vfs_files.specs.declared.entry.Context.{Context}
use Rattle.vfs_grammar.specs.Listing.{given_back, Listing}
use Rattle.vfs_grammar.specs.Limits.{max_len}
use Rattle.vfs_grammar.specs.Records.{size_of}
use Rattle.vfs_grammar.specs.Ask.{form_of, ask, ask_number}
use Rattle.vfs_grammar.specs.Forms.{Ask, Ends, Asks, Lists, WithMemory, Form, NoTail, NameTail, TwoNames, NameAndValue, NameAndExtensions, LinkAndExtensions, Pairs, WithRest, IntoRoom, Directories, Versions, Silent, NotServed, Layout, refused_or, layout_record, layout_size, tail_of, ask_form}
use Rattle.vfs_grammar.specs.Words.{following, refused, IsRead}
use Rattle.laws_turns.specs.Turns.{TailIsWhole, HasWhole, unique_of, BeginsWithHeader, WantsMemory, WantsMemoryAfter}
use Rattle.vfs_grammar.specs.Options.{AreAgreed, agreed, options_after}
use Rattle.vfs_grammar.specs.Reply.{Reply, Echo, echo_of, Refusal, NoReply, Bytes, OpenAfter, fault_reply, body_reply, reply_of, version_out}
use Rattle.vfs_grammar.specs.Room.{IsReplied, unseen}
use Rattle.vfs_grammar.specs.Turn.{Turn, Follows, IsTurn, node_answered}
use Rattle.vfs_grammar.specs.Witnesses.{IsTurnWithMemory, turn_with_memory_tells, FollowsFor}
use Rattle.vfs_grammar.specs.declared.limits.Limits.{Limits}
use Rattle.vfs_grammar.specs.declared.error.Error.{Error}
use Rattle.vfs_grammar.specs.declared.error.Error.TheVariants.{DecodeMessage, EncodeMessage, FlushMessage, InvalidCString2, OutOfMemory}
use Rattle.laws_turns.proofs.Asking.{EachCase, ask_cases, layout_cases, tail_cases, pairs_cases, room_cases, within_cases, versions_cases}
use Rattle.vfs_grammar.proofs.Refusing.{MayRefuse}
use Rattle.laws_turns.proofs.Bodies.{IsReply, IsReply-fault, IsReply-body, init_out_is_short, replies_hold}

-- ---- refusals

-- a reply is refused only where it is too long
put_error : (fits : Bool) (n : ℕ) (e : Error) → (if fits then Ok n else Err EncodeMessage) ≡ Err e → e ≡ EncodeMessage
put_error true n e h = absurd cc
put_error false n e h = cc

-- bytes that come back are refused only where they are too long
bytes_error : (bytes room : List ℕ) (outcome : Result ℕ Error) (left : List ℕ) (e : Error) → IsReplied (Bytes bytes) room outcome left → outcome ≡ Err e → e ≡ EncodeMessage
bytes_error bytes room outcome left e h o = put_error (nat_le (length bytes) (length room)) (length bytes) e (sym h.says ∙ o)

-- what comes back of a call is refused only where it is too long
answer_error : (limits : Limits) (echo : Echo) (options : ℕ) (kind : Kind) (answer : Answer) (room : List ℕ) (outcome : Result ℕ Error) (left : List ℕ) (e : Error)
    → IsAnswer kind answer → IsReplied (reply_of limits echo options kind answer) room outcome left → outcome ≡ Err e → e ≡ EncodeMessage
answer_error limits echo options kind answer room outcome left e a h o =
    replies_hold (λ reply. IsReplied reply room outcome left → e ≡ EncodeMessage) limits echo options kind answer a
    (λ none. absurd (let a = sym none.0 ∙ o in cc)) (λ reply is p. bytes_error reply room outcome left e p o)
    (λ reply is p. absurd (let a = sym p.says ∙ o in cc)) h

ended_so : (reply : Reply) (room : List ℕ) (outcome : Result ℕ Error) (left : List ℕ) (e : Error) → IsReplied reply room outcome left → outcome ≡ Err e → e ≢ EncodeMessage → left ≡ room
ended_so (Refusal error) room outcome left e h o n = h.1
ended_so NoReply room outcome left e h o n = h.1
ended_so (Bytes bytes) room outcome left e h o n = absurd (n (bytes_error bytes room outcome left e h o))
ended_so (OpenAfter bytes) room outcome left e h o n = absurd (let a = sym h.says ∙ o in cc)

nothing_follows : (limits : Limits) (options : ℕ) (a : Ask) (t : Turn) (after : ℕ) (e : Error) → Follows t limits options a after → t.outcome ≡ Err e → e ≢ EncodeMessage → (t.events ≡ []) × (t.room_after ≡ t.room) × (after ≡ options)
nothing_follows limits options (Ends reply) t after e f o n = (f.0, ended_so reply t.room t.outcome t.room_after e f.1 o n, f.2)
nothing_follows limits options (Asks echo call) t after e f o n = absurd (n (answer_error limits echo after (kind_of call) f.0 t.room t.outcome t.room_after e f.2 f.3 o))
nothing_follows limits options (Lists echo l) t after e f o n = absurd (n (answer_error limits echo after (Data l.size) (read_answer f.1 f.0) t.room t.outcome t.room_after e f.3 f.4 o))
nothing_follows limits options (WithMemory rest) t after e (inl f) o n = nothing_follows limits options rest t after e f o n
nothing_follows limits options (WithMemory rest) t after e (inr f) o n = (f.0, f.1.1, f.2)

pub nothing_changed : (limits : Limits) (options after : ℕ) (t : Turn) (e : Error) → IsTurn limits options t after → t.outcome ≡ Err e → e ≢ EncodeMessage → (t.events ≡ []) × (t.room_after ≡ t.room) × (after ≡ options)
nothing_changed limits options after t e f o n = nothing_follows limits options (ask limits options (length t.room) t.request) t after e f o n

-- the errors that are answered
MayAnswer : Error → Type 0
MayAnswer FlushMessage = ⊥
MayAnswer InvalidCString2 = ⊥
MayAnswer _ = Unit {0}

may : (e : Error) → MayRefuse e → MayAnswer e
unfolding MayAnswer
may FlushMessage m = m
may InvalidCString2 m = m
may _ m = tt

of_error : (error e : Error) (outcome : Result ℕ Error) → outcome ≡ Err error → outcome ≡ Err e → MayAnswer error → MayAnswer e
of_error error e outcome h o m = let same : error ≡ e = (let a = sym h ∙ o in cc) in subst MayAnswer same m

answers : (limits : Limits) (options after : ℕ) (t : Turn) (e : Error) → t.outcome ≡ Err e
    → Follows t limits options (ask limits options (length t.room) t.request) after → MayAnswer e
unfolding MayAnswer
answers limits options after t e o =
    let P : Ask → Type 0 = λ a. Follows t limits options a after → MayAnswer e in
    let u = unique_of t.request in
    let encode : e ≡ EncodeMessage → MayAnswer e = λ h. subst MayAnswer (sym h) tt in
    ask_cases P u
    (record {
      refusal = λ x m f. of_error x e t.outcome f.1.0 o (may x m);
      fault = λ x f. encode (bytes_error (fault_reply x u) t.room t.outcome t.room_after e f.1 o);
      version = λ f. encode (bytes_error (body_reply (bytes_of init_out version_out) u) t.room t.outcome t.room_after e f.1 o);
      nothing = λ f. absurd (let a = sym f.1.0 ∙ o in cc);
      asks = λ echo c same f. encode (answer_error limits echo after (kind_of c) f.0 t.room t.outcome t.room_after e f.2 f.3 o);
      lists = λ echo l same f. encode (answer_error limits echo after (Data l.size) (read_answer f.1 f.0) t.room t.outcome t.room_after e f.3 f.4 o);
    })
    (λ a p f. elim f as (λ x. MayAnswer e) [ inl g ↦ p g | inr g ↦ of_error OutOfMemory e t.outcome g.1.0 o tt ])
    limits options (length t.room) t.request refl (λ small f. encode (let a = sym f.1.0 ∙ o in cc))

pub never_flush : (limits : Limits) (options after : ℕ) (t : Turn) → IsTurn limits options t after → t.outcome ≢ Err FlushMessage
unfolding MayAnswer
never_flush limits options after t f o = answers limits options after t FlushMessage o f

pub never_second : (limits : Limits) (options after : ℕ) (t : Turn) → IsTurn limits options t after → t.outcome ≢ Err InvalidCString2
unfolding MayAnswer
never_second limits options after t f o = answers limits options after t InvalidCString2 o f

-- ---- memory

module _ (limits : Limits) (options after : ℕ) (t : Turn) (lacks : t.outcome ≡ Err OutOfMemory) where
  -- after what doesn't take memory, it isn't wanted
  Gives : Type 0 → Ask → Type 0
  Gives Q a = Follows t limits options a after → Q

  each : (Q : Type 0) (unique : ℕ) → EachCase (Gives Q) unique
  unfolding Gives
  each Q unique = record {
    refusal = λ x m f. let same : x ≡ OutOfMemory = (let a = sym f.1.0 ∙ lacks in cc) in absurd (subst MayRefuse same m);
    fault = λ x f. absurd (let a = bytes_error (fault_reply x unique) t.room t.outcome t.room_after OutOfMemory f.1 lacks in cc);
    version = λ f. absurd (let a = bytes_error (body_reply (bytes_of init_out version_out) unique) t.room t.outcome t.room_after OutOfMemory f.1 lacks in cc);
    nothing = λ f. absurd (let a = sym f.1.0 ∙ lacks in cc);
    asks = λ echo c same f. absurd (let a = answer_error limits echo after (kind_of c) f.0 t.room t.outcome t.room_after OutOfMemory f.2 f.3 lacks in cc);
    lists = λ echo l same f. absurd (let a = answer_error limits echo after (Data l.size) (read_answer f.1 f.0) t.room t.outcome t.room_after OutOfMemory f.3 f.4 lacks in cc);
  }

  -- nor where the room is too small for a header
  cramped : {small : Type 0} (Q : Type 0) → small → Gives Q (refused EncodeMessage)
  unfolding Gives
  cramped Q small f = absurd (let a = sym f.1.0 ∙ lacks in cc)

  is_ok : {A : Type 0} (r : Result A Error) (x : A) → r ≡ Ok x → IsOk r
  is_ok r x e = subst IsOk (sym e) refl

  -- where memory may be wanted by the form, it is; after a request of another form it isn't
  memory_tail : {R : Type 0} (h : InHeader) (rest : List ℕ) (l : Layout R) (next : R → List ℕ → Ask)
      → Gives (TailIsWhole h rest l)
      (refused_or (layout_record l rest) (λ r. refused_or (tail_of h (layout_size l) (following l rest)) (λ tail. WithMemory (next r tail))))
  unfolding Gives
  memory_tail h rest l next =
      let Q = TailIsWhole h rest l in
      let all = each Q h.unique in
      layout_cases (Gives Q) h.unique all l rest _ (λ r is.
      tail_cases (Gives Q) h.unique all h _ _ _ (λ tail whole f. record { whole_record = is_ok _ r is; whole_tail = is_ok _ tail whole }))

  memory_form : (h : InHeader) (rest : List ℕ) (form : Form) → Gives (HasWhole h rest form) (ask_form h rest form)
  unfolding Gives
  memory_form h rest (NoTail l above call) =
      let Q = HasWhole h rest (NoTail l above call) in
      let all = each Q h.unique in
      layout_cases (Gives Q) h.unique all l rest _ (λ r is.
      within_cases (Gives Q) h.unique all (above r) h _ refl (λ no. all.asks _ _ refl))
  memory_form h rest (NameTail l above call) = memory_tail h rest l _
  memory_form h rest (TwoNames l call) = memory_tail h rest l _
  memory_form h rest (NameAndValue l size call) = memory_tail h rest l _
  memory_form h rest (NameAndExtensions l options call) = memory_tail h rest l _
  memory_form h rest (LinkAndExtensions l options call) = memory_tail h rest l _
  memory_form h rest (Pairs l above count call) =
      let Q = HasWhole h rest (Pairs l above count call) in
      let all = each Q h.unique in
      layout_cases (Gives Q) h.unique all l rest _ (λ r is.
      within_cases (Gives Q) h.unique all (above r) h _ refl (λ no.
      pairs_cases (Gives Q) h.unique all (count r) _ _ (λ pairs whole f. record {
        counts = r;
        whole_record = is;
        in_limit = no;
        whole_pairs = is_ok _ pairs whole;
      })))
  memory_form h rest (WithRest l call) =
      let Q = HasWhole h rest (WithRest l call) in
      let all = each Q h.unique in
      layout_cases (Gives Q) h.unique all l rest _ (λ r is. all.asks _ _ refl)
  memory_form h rest (IntoRoom l room call) =
      let Q = HasWhole h rest (IntoRoom l room call) in
      let all = each Q h.unique in
      layout_cases (Gives Q) h.unique all l rest _ (λ r is.
      room_cases (Gives Q) h.unique all room _ (cramped Q) (λ room_for_data. all.asks _ _ refl))
  memory_form h rest (Directories l above room listing) =
      let Q = HasWhole h rest (Directories l above room listing) in
      let all = each Q h.unique in
      layout_cases (Gives Q) h.unique all l rest _ (λ r is.
      within_cases (Gives Q) h.unique all (above r) h _ refl (λ no.
      room_cases (Gives Q) h.unique all room _ (cramped Q) (λ room_for_records. all.lists (echo_of h) (listing r room_for_records) refl)))
  memory_form h rest Versions =
      versions_cases (Gives (HasWhole h rest Versions)) h.unique (each (HasWhole h rest Versions) h.unique) h rest refl
  memory_form h rest Silent = (each (HasWhole h rest Silent) h.unique).nothing
  memory_form h rest NotServed = (each (HasWhole h rest NotServed) h.unique).fault (Some enosys)

  memory_number : (room : ℕ) (opcode : Option Opcode) (h : InHeader) (rest : List ℕ) → Gives (WantsMemoryAfter limits options room opcode h rest) (ask_number limits options room opcode h rest)
  memory_number room None h rest = (each (WantsMemoryAfter limits options room None h rest) h.unique).fault (Some enosys)
  memory_number room (Some opcode) h rest = memory_form h rest (form_of limits options room h opcode)

  memory_header : (room : ℕ) (request : List ℕ) (short over : Bool) → nat_lt (length request) (size_of in_header) ≡ short → nat_lt (max_len limits) (value_of in_header request).len ≡ over
      → Gives (WantsMemory limits options room request) (ask limits options room request)
  unfolding Gives
  memory_header room request true over s l = rw s ((each _ 0).refusal DecodeMessage tt)
  memory_header room request false true s l = rw (s, l) ((each _ (unique_of request)).fault (Some enomem))
  memory_header room request false false s l =
      rw (s, l) (λ f. record {
        header = grind (arith, nat_tests, s);
        in_limit = grind (arith, nat_tests, l);
        form = memory_number room (opcode_of (value_of in_header request).opcode) (value_of in_header request) (drop (size_of in_header) request) f;
      })

  pub memory_wanted : IsTurn limits options t after → WantsMemory limits options (length t.room) t.request
  unfolding Gives
  memory_wanted f = memory_header (length t.room) t.request _ _ refl refl f

-- where memory was there for each copy, no request is refused for want of it
pub enough_memory : (limits : Limits) (options after : ℕ) (t : Turn) → IsTurnWithMemory limits options t after → t.outcome ≢ Err OutOfMemory
enough_memory limits options after t f o =
    let P : Ask → Type 0 = λ a. FollowsFor (turn_with_memory_tells t) limits options a after → MayRefuse OutOfMemory in
    let u = unique_of t.request in
    ask_cases P u
    (record {
      refusal = λ x m f. let same : x ≡ OutOfMemory = (let a = sym f.1.0 ∙ o in cc) in subst MayRefuse same m;
      fault = λ x f. absurd (let a = bytes_error (fault_reply x u) t.room t.outcome t.room_after OutOfMemory f.1 o in cc);
      version = λ f. absurd (let a = bytes_error (body_reply (bytes_of init_out version_out) u) t.room t.outcome t.room_after OutOfMemory f.1 o in cc);
      nothing = λ f. absurd (let a = sym f.1.0 ∙ o in cc);
      asks = λ echo c same f. absurd (let a = answer_error limits echo after (kind_of c) f.0 t.room t.outcome t.room_after OutOfMemory f.2 f.3 o in cc);
      lists = λ echo l same f. absurd (let a = answer_error limits echo after (Data l.size) (read_answer f.1 f.0) t.room t.outcome t.room_after OutOfMemory f.3 f.4 o in cc);
    })
    (λ a p f. elim f as (λ x. MayRefuse OutOfMemory) [ inl g ↦ p g | inr g ↦ absurd g.0 ])
    limits options (length t.room) t.request refl (λ small f. absurd (let a = sym f.1.0 ∙ o in cc)) f

-- ---- replies

put_begins : (fits : Bool) (reply room : List ℕ) (n unique : ℕ) → (if fits then Ok (length reply) else Err EncodeMessage) ≡ Ok n
    → IsReply unique reply
    → BeginsWithHeader n unique (if fits then reply ++ drop (length reply) room else take (length room) reply)
put_begins false reply room n unique o r = absurd (let P = o in cc)
put_begins true reply room n unique o r =
    let same : length reply ≡ n = cc in
    record {
      error = r.error;
      fits = omega (arith, same, r.fits);
      header = take-append-le 16 reply (drop (length reply) room) r.long ∙ r.header
          ∙ ap (λ (k : ℕ). bytes_of out_header (record { len = k; error = r.error; unique = unique })) same;
    }

bytes_begin : (reply : List ℕ) (room : List ℕ) (outcome : Result ℕ Error) (room_after : List ℕ) (n unique : ℕ)
    → IsReplied (Bytes reply) room outcome room_after → outcome ≡ Ok n → IsReply unique reply → BeginsWithHeader n unique room_after
bytes_begin reply room outcome room_after n unique h o r =
    subst (BeginsWithHeader n unique) (sym h.leaves) (put_begins (nat_le (length reply) (length room)) reply room n unique (sym h.says ∙ o) r)

open_begin : (reply : List ℕ) (room : List ℕ) (outcome : Result ℕ Error) (room_after : List ℕ) (n unique : ℕ)
    → IsReplied (OpenAfter reply) room outcome room_after → outcome ≡ Ok n → IsReply unique reply → BeginsWithHeader n unique room_after
open_begin reply room outcome room_after n unique h o r =
    let e = sym h.says ∙ o in
    let same : length reply ≡ n = cc in
    let first : take 16 room_after ≡ take 16 reply =
    sym (take-take 16 (length reply) room_after r.long) ∙ ap (λ (l : List ℕ). take 16 l) h.begins in
    record {
      error = r.error;
      fits = omega (arith, same, r.fits);
      header = first ∙ r.header ∙ ap (λ (k : ℕ). bytes_of out_header (record { len = k; error = r.error; unique = unique })) same;
    }

answer_begins : (limits : Limits) (echo : Echo) (options : ℕ) (kind : Kind) (answer : Answer) (room : List ℕ) (outcome : Result ℕ Error) (room_after : List ℕ) (n : ℕ)
    → IsAnswer kind answer → IsReplied (reply_of limits echo options kind answer) room outcome room_after → outcome ≡ Ok n → 0 < n
    → BeginsWithHeader n echo.unique room_after
answer_begins limits echo options kind answer room outcome room_after n a h o some =
    replies_hold (λ reply. IsReplied reply room outcome room_after → BeginsWithHeader n echo.unique room_after) limits echo options kind answer a
    (λ none. let z : n ≡ 0 = (let a = sym none.0 ∙ o in cc) in absurd (omega arith))
    (λ reply is p. bytes_begin reply room outcome room_after n echo.unique p o is)
    (λ reply is p. open_begin reply room outcome room_after n echo.unique p o is) h

pub begins : (limits : Limits) (options after n : ℕ) (t : Turn) → IsTurn limits options t after → t.outcome ≡ Ok n → 0 < n
    → BeginsWithHeader n (unique_of t.request) t.room_after
begins limits options after n t f o some =
    let u = unique_of t.request in
    let P : Ask → Type 0 = λ a. Follows t limits options a after → BeginsWithHeader n u t.room_after in
    ask_cases P u
    (record {
      refusal = λ x m f. absurd (let a = sym f.1.0 ∙ o in cc);
      fault = λ x f. bytes_begin (fault_reply x u) t.room t.outcome t.room_after n u f.1 o (IsReply-fault x u);
      version = λ f. bytes_begin (body_reply (bytes_of init_out version_out) u) t.room t.outcome t.room_after n u f.1 o
          (IsReply-body (bytes_of init_out version_out) u (init_out_is_short version_out));
      nothing = λ f. let z : n ≡ 0 = (let a = sym f.1.0 ∙ o in cc) in absurd (omega arith);
      asks = λ echo c same f. subst (λ (v : ℕ). BeginsWithHeader n v t.room_after) same
          (answer_begins limits echo after (kind_of c) f.0 t.room t.outcome t.room_after n f.2 f.3 o some);
      lists = λ echo l same f. subst (λ (v : ℕ). BeginsWithHeader n v t.room_after) same
          (answer_begins limits echo after (Data l.size) (read_answer f.1 f.0) t.room t.outcome t.room_after n f.3 f.4 o some);
    })
    (λ a p f. elim f as (λ x. BeginsWithHeader n u t.room_after) [ inl g ↦ p g | inr g ↦ absurd (let a = sym g.1.0 ∙ o in cc) ])
    limits options (length t.room) t.request refl (λ small f. absurd (let a = sym f.1.0 ∙ o in cc)) f

-- ---- options

bit_at-le : (n k : ℕ) → bit_at n k ≤ 1
bit_at-le n k = omega arith

AreAgreed-agreed : (offered want : ℕ) → AreAgreed offered (agreed offered want)
AreAgreed-agreed offered want = record {
  offered_only = λ k h. omega (arith, h, bit_at_and offered (bit_or want supported_fs_options) k, bit_at-le offered k);
  supported_too = λ k a b. omega (arith, a, b, bit_at_and offered (bit_or want supported_fs_options) k, bit_at_or want supported_fs_options k, bit_at-le want k);
}

-- a directory that was read in one event keeps the options: the event is that `readdir` failed
listed_alone : (l : Listing) (events : List Event) (records : List ℕ) (result : Result ℕ (Option ℕ)) (call : Call) (answer : Answer) (options : ℕ)
    → IsRead l events records result → events ≡ Called call answer ∷ [] → options_after call answer options ≡ options
listed_alone l events records result call answer options (inl u) e =
    let a = sym u.1 ∙ e in
    let same : Readdir l.ctx l.parent l.handle l.size l.offset ≡ call = cc in
    ap (λ (c : Call). options_after c answer options) (sym same)
listed_alone l events records result call answer options (inr o) e = absurd (let a = sym o.1 ∙ e in cc)

-- the options after the one call of a turn
pub after_call : (limits : Limits) (options : ℕ) (a : Ask) (t : Turn) (after : ℕ) (call : Call) (answer : Answer) → Follows t limits options a after → t.events ≡ Called call answer ∷ [] → after ≡ options_after call answer options
after_call limits options (Ends reply) t after call answer f e = absurd (let a = sym f.0 ∙ e in cc)
after_call limits options (Asks echo c) t after call answer f e =
    let a = sym f.1 ∙ e in
    let same : c ≡ call = cc in
    let answered : f.0 ≡ answer = cc in
    f.4 ∙ ap (λ (x : Call). options_after x f.0 options) same ∙ ap (λ (x : Answer). options_after call x options) answered
after_call limits options (Lists echo l) t after call answer f e = f.5 ∙ sym (listed_alone l t.events f.0 f.1 call answer options f.2 e)
after_call limits options (WithMemory rest) t after call answer (inl f) e = after_call limits options rest t after call answer f e
after_call limits options (WithMemory rest) t after call answer (inr f) e = absurd (let a = sym f.0 ∙ e in cc)

pub agrees : (limits : Limits) (options after offered want : ℕ) (t : Turn) → IsTurn limits options t after → t.events ≡ Called (Init offered) (Options want) ∷ [] → AreAgreed offered after
agrees limits options after offered want t f e =
    subst (AreAgreed offered) (sym (after_call limits options (ask limits options (length t.room) t.request) t after (Init offered) (Options want) f e)) (AreAgreed-agreed offered want)

pub destroyed : (limits : Limits) (options after : ℕ) (answer : Answer) (t : Turn) → IsTurn limits options t after → t.events ≡ Called Destroy answer ∷ [] → after ≡ 0
destroyed limits options after answer t f e = after_call limits options (ask limits options (length t.room) t.request) t after Destroy answer f e

-- a call that is no accepted INIT and no DESTROY keeps the options
call_keeps : (call : Call) (answer : Answer) (options : ℕ) (events : List Event) (ctx : Context) (room : ℕ) (reply : Reply)
    → events ≡ Called call answer ∷ given_back ctx (unseen room reply (node_answered (kind_of call) answer))
    → ((offered want : ℕ) → events ≢ Called (Init offered) (Options want) ∷ []) → ((answer : Answer) → events ≢ Called Destroy answer ∷ [])
    → options_after call answer options ≡ options
call_keeps (Init offered) (Options want) options events ctx room reply e no_init no_destroy = absurd (no_init offered want e)
call_keeps (Init offered) _ options events ctx room reply e no_init no_destroy = refl
call_keeps Destroy answer options events ctx room reply e no_init no_destroy = absurd (no_destroy answer e)
call_keeps _ answer options events ctx room reply e no_init no_destroy = refl

-- what is asked keeps the options, but for an accepted INIT and a DESTROY
keeps : (limits : Limits) (options : ℕ) (a : Ask) (t : Turn) (after : ℕ) → Follows t limits options a after
    → ((offered want : ℕ) → t.events ≢ Called (Init offered) (Options want) ∷ []) → ((answer : Answer) → t.events ≢ Called Destroy answer ∷ [])
    → after ≡ options
keeps limits options (Ends reply) t after f no_init no_destroy = f.2
keeps limits options (Asks echo call) t after f no_init no_destroy =
    f.4
    ∙ call_keeps call f.0 options t.events echo.ctx (length t.room) (reply_of limits echo after (kind_of call) f.0) f.1 no_init no_destroy
keeps limits options (Lists echo l) t after f no_init no_destroy = f.5
keeps limits options (WithMemory rest) t after (inl f) no_init no_destroy = keeps limits options rest t after f no_init no_destroy
keeps limits options (WithMemory rest) t after (inr f) no_init no_destroy = f.2

pub kept : (limits : Limits) (options after : ℕ) (t : Turn) → IsTurn limits options t after
    → ((offered want : ℕ) → t.events ≢ Called (Init offered) (Options want) ∷ []) → ((answer : Answer) → t.events ≢ Called Destroy answer ∷ [])
    → after ≡ options
kept limits options after t f no_init no_destroy = keeps limits options (ask limits options (length t.room) t.request) t after f no_init no_destroy

-- ---- answers

-- a directory that begins with a call was answered by a fault
listed_kind : (l : Listing) (events : List Event) (records : List ℕ) (result : Result ℕ (Option ℕ)) (call : Call) (answer : Answer) (rest : List Event)
    → IsRead l events records result → events ≡ Called call answer ∷ rest → IsAnswer (Data l.size) (read_answer result records) → IsAnswer (kind_of call) answer
listed_kind l events records result call answer rest (inl u) e a =
    let x = sym u.1 ∙ e in
    let same : Readdir l.ctx l.parent l.handle l.size l.offset ≡ call = cc in
    let answered : Failed u.0 ≡ answer = cc in
    let fault : IsFault u.0 = subst (λ r. IsAnswer (Data l.size) (read_answer r records)) u.3 a in
    subst (λ c. IsAnswer (kind_of c) answer) same (subst (λ x. IsAnswer Iterators x) answered fault)
listed_kind l events records result call answer rest (inr o) e a = absurd (let x = sym o.1 ∙ e in cc)

-- the call that a turn begins with was answered by an answer of its kind
called_kind : (limits : Limits) (options : ℕ) (a : Ask) (t : Turn) (after : ℕ) (call : Call) (answer : Answer) (rest : List Event) → Follows t limits options a after
    → t.events ≡ Called call answer ∷ rest → IsAnswer (kind_of call) answer
called_kind limits options (Ends reply) t after call answer rest f e = absurd (let a = sym f.0 ∙ e in cc)
called_kind limits options (Asks echo c) t after call answer rest f e =
    let a = sym f.1 ∙ e in
    let same : c ≡ call = cc in
    let answered : f.0 ≡ answer = cc in
    subst (λ x. IsAnswer (kind_of x) answer) same (subst (λ x. IsAnswer (kind_of c) x) answered f.2)
called_kind limits options (Lists echo l) t after call answer rest f e = listed_kind l t.events f.0 f.1 call answer rest f.2 e f.3
called_kind limits options (WithMemory next) t after call answer rest (inl f) e = called_kind limits options next t after call answer rest f e
called_kind limits options (WithMemory next) t after call answer rest (inr f) e = absurd (let a = sym f.0 ∙ e in cc)

pub of_its_kind : (limits : Limits) (options after : ℕ) (call : Call) (answer : Answer) (rest : List Event) (t : Turn) → IsTurn limits options t after
    → t.events ≡ Called call answer ∷ rest → IsAnswer (kind_of call) answer
of_its_kind limits options after call answer rest t f e = called_kind limits options (ask limits options (length t.room) t.request) t after call answer rest f e
