-- What is told of a request without room for a reply says what it is.
use Rattle.std.proofs.Common.{◌≡◌, ◌<◌, ◌≤◌, ◌==◌, ◌+◌, ◌∙◌, ℕ, Bool, true, false, List, length, drop, nat_lt, nat_le, if◌then◌else◌, Option, Some, None, Result, Ok, Err, refl, ap, sym, subst, inl, inr, arith}
use Rattle.std.proofs.lemmas.Bool.Decides.{nat_tests}
use Rattle.vfs_flags.specs.declared.opcode.Opcode.{Opcode}
use Rattle.vfs_flags.specs.Numbers.{enomem, enosys, eproto, opcode_of}
use Rattle.vfs_flags.specs.declared.constants.TheConstants.{KERNEL_VERSION, MIN_KERNEL_MINOR_VERSION}
use Rattle.vfs_flags.specs.declared.opcode.Opcode.TheVariants.{Init, Interrupt, Read, Readdir, Readdirplus, RemoveMapping, SetupMapping}
use Rattle.vfs_wire.specs.Fields.{bytes_of, little}
use Rattle.vfs_wire.specs.Records.{in_header, out_header, init_out}
use Rattle.vfs_wire.specs.declared.headers.InHeader.{InHeader}
use Rattle.vfs_wire.specs.declared.init.InitInCompat.{InitInCompat}
use Rattle.vfs_segments.specs.Written.{Written}
use Rattle.vfs_grammar.specs.Ask.{ask, ask_number, form_of}
use Rattle.vfs_grammar.specs.Words.{ask_header}
use Rattle.vfs_grammar.specs.Memory.{header_of}
use Rattle.vfs_grammar.specs.Forms.{Ask, Ends, Asks, Lists, WithMemory, Form, ask_form, ask_version, faulted, within}
use Rattle.vfs_grammar.specs.Limits.{max_len}
use Rattle.vfs_grammar.specs.Records.{record_of, size_of}
use Rattle.vfs_grammar.specs.Reply.{Refusal, NoReply, Bytes, fault_reply, body_reply, version_out}
use Rattle.vfs_grammar.specs.declared.limits.Limits.{Limits}
use Rattle.vfs_grammar.specs.declared.error.Error.{Error}
use Rattle.vfs_grammar.specs.declared.error.Error.TheVariants.{DecodeMessage, EncodeMessage, FlushMessage, MissingParameter, InvalidCString, InvalidCString2, InvalidHeaderLength, InvalidXattrSize, MissingExtension, OutOfMemory}
use Rattle.vfs_grammar.proofs.Refusing.{MayRefuse, either}
use Rattle.vfs_grammar.proofs.Rooms.{length-fault_reply, length-body_reply}
use Rattle.vfs_grammar.specs.Books.{opcode_in}
use Rattle.laws_turns.specs.Turns.{unique_of}
use Rattle.laws_turns.proofs.Asking.{IsCramped, IsCrampedBy, ask_cases}
use Rattle.laws_turns.proofs.Table.{Shows, form_shown}
use Rattle.codec_calls.specs.Shapes.{nothing}
use Rattle.codec_calls.specs.declared.call.CallData.{CallData}
use Rattle.codec_decode.specs.Asked.{Tells}
use Rattle.codec_decode.specs.Checked.{Judges, answered, checked_of, refused_as}
use Rattle.codec_decode.specs.declared.asked.Asked.{Asked}
use Rattle.codec_decode.specs.declared.asked.Asked.TheVariants as asked
use Rattle.codec_decode.specs.declared.checked.Checked.{Checked}
use Rattle.codec_decode.specs.declared.checked.Checked.TheVariants as checked

-- a request that carries data, and whose room is too small for a header
cramped_form : (limits : Limits) (options room : ℕ) (h : InHeader) (opcode : Opcode)
    → IsCramped (form_of limits options room h opcode) → room < size_of out_header
cramped_form limits options room h Read small = small
cramped_form limits options room h Readdir small = small
cramped_form limits options room h Readdirplus small = small
cramped_form limits options room h _ small = absurd small

cramped_by : (limits : Limits) (options room : ℕ) (opcode : Option Opcode) (h : InHeader)
    → IsCrampedBy limits options room opcode h → room < size_of out_header
cramped_by limits options room None h small = absurd small
cramped_by limits options room (Some opcode) h small = cramped_form limits options room h opcode small

-- an error that the bytes of a request are refused by is said as it is
said_as_it_is : (room n : ℕ) (e : Error) → MayRefuse e → refused_as room n e ≡ checked.Refused e
said_as_it_is room n DecodeMessage may = refl
said_as_it_is room n EncodeMessage may = absurd may
said_as_it_is room n FlushMessage may = refl
said_as_it_is room n MissingParameter may = refl
said_as_it_is room n InvalidCString may = refl
said_as_it_is room n InvalidCString2 may = refl
said_as_it_is room n InvalidHeaderLength may = refl
said_as_it_is room n (InvalidXattrSize sizes) may = refl
said_as_it_is room n MissingExtension may = refl
said_as_it_is room n OutOfMemory may = refl

small_test : (room : ℕ) → room < size_of out_header → nat_lt room (size_of out_header) ≡ true
small_test room small = grind (arith, nat_tests, small)

-- where a room is too small for a header, that is said
cramped_so : (room n : ℕ) → room < size_of out_header → answered room n 16 ≡ checked.Refused EncodeMessage
cramped_so room n small = ap (λ (b : Bool). if b then checked.Refused EncodeMessage else checked.Finished n) (small_test room small)

-- a reply to it, if one is due without a call, is a header alone
abbrev EndsShort : Ask → Type 0
EndsShort (Ends (Bytes reply)) = length reply ≡ 16
EndsShort (Ends reply) = Unit {0}
EndsShort (Asks echo call) = Unit {0}
EndsShort (Lists echo l) = Unit {0}
EndsShort (WithMemory rest) = EndsShort rest

-- so it is of all but an INIT
module _ (limits : Limits) (options space : ℕ) (h : InHeader) (rest : List ℕ) where
  short_form : (form : Form) → Shows EndsShort h rest form → EndsShort (ask_form h rest form)
  short_form form shows =
      form_shown EndsShort h rest (λ e. tt) (λ number low high. length-fault_reply (Some number) h.unique) (λ a p. p) form shows

  short_opcode : (o : Opcode) → (o ≡ Init → ⊥) → EndsShort (ask_form h rest (form_of limits options space h o))
  short_opcode Init other = absurd (other refl)
  short_opcode Interrupt other = short_form (form_of limits options space h Interrupt) tt
  short_opcode SetupMapping other = short_form (form_of limits options space h SetupMapping) tt
  short_opcode RemoveMapping other = short_form (form_of limits options space h RemoveMapping) tt
  short_opcode o other = short_form (form_of limits options space h o) (λ x is. tt)

  short_number : (o : Option Opcode) → (o ≡ Some Init → ⊥) → EndsShort (ask_number limits options space o h rest)
  short_number None other = length-fault_reply (Some enosys) h.unique
  short_number (Some o) other = short_opcode o (λ e. other (ap Some e))

  short_within : (above : Bool) → (above ≡ false → opcode_of h.opcode ≡ Some Init → ⊥)
      → EndsShort (within above h (ask_number limits options space (opcode_of h.opcode) h rest))
  short_within true other = length-fault_reply (Some enomem) h.unique
  short_within false other = short_number (opcode_of h.opcode) (other refl)

  pub ends_short : (nat_lt (max_len limits) h.len ≡ false → opcode_of h.opcode ≡ Some Init → ⊥)
      → EndsShort (ask_header limits options space h rest)
  ends_short other = short_within (nat_lt (max_len limits) h.len) other

-- no reply fits where there is no room
unfit : (long space : ℕ) (outcome : Result ℕ Error) → 0 < long → space ≡ 0
    → outcome ≡ (if nat_le long space then Ok long else Err EncodeMessage) → outcome ≡ Err EncodeMessage
unfit long space outcome some none is =
    let test : nat_le long space ≡ false = grind (arith, nat_tests, some, none) in
    is ∙ ap (λ (b : Bool). if b then Ok long else Err EncodeMessage) test

module _ (wanted : Type 0) (q : List ℕ) (options interrupts room : ℕ) (writer writer_after : Written)
    (none : length writer.left ≡ 0) (told : CallData) where
  -- what is said of this, if it is told so
  abbrev Says : Asked → Ask → Type 0
  Says result a =
      Tells wanted q options interrupts room a writer result writer_after told
      → Judges wanted q options interrupts room a (checked_of room result) told

  refusal : (result : Asked) (e : Error) → ((n : ℕ) → refused_as room n e ≡ checked.Refused e) → Says result (Ends (Refusal e))
  refusal asked.Call e as_it_is t = absurd t
  refusal (asked.Finished (Ok len) n) e as_it_is t = absurd (let a = t.0.0 in cc)
  refusal (asked.Finished (Err x) n) e as_it_is t =
      let same : x ≡ e = (let a = t.0.0 in cc) in
      (subst (λ (x : Error). refused_as room n x ≡ checked.Refused e) (sym same) (as_it_is n), t.2)

  silent : (result : Asked) → Says result (Ends NoReply)
  silent asked.Call t = absurd t
  silent (asked.Finished (Ok len) n) t = (ap checked.Finished t.1, t.2)
  silent (asked.Finished (Err x) n) t = absurd (let a = t.0.0 in cc)

  replied : (result : Asked) (reply : List ℕ) → length reply ≡ 16 → Says result (Ends (Bytes reply))
  replied asked.Call reply long t = absurd t
  replied (asked.Finished (Ok len) n) reply long t =
      absurd (let a = unfit (length reply) (length writer.left) (Ok len) (omega (arith, long)) none t.0.says.says in cc)
  replied (asked.Finished (Err x) n) reply long t =
      let e = unfit (length reply) (length writer.left) (Err x) (omega (arith, long)) none t.0.says.says in
      let same : x ≡ EncodeMessage = cc in (
        subst (λ (x : Error). refused_as room n x ≡ answered room interrupts (length reply)) (sym same)
            (ap (λ (k : ℕ). answered room k 16) t.1 ∙ sym (ap (answered room interrupts) long)),
        t.2,
      )

  -- what is told of it says what a request is, to which no longer reply is due
  abbrev SaysShort : Asked → Ask → Type 0
  SaysShort result a = EndsShort a → Says result a

  -- what is told says what the request is
  pub judges : (limits : Limits) (result : Asked) → SaysShort result (ask limits options room q)
  judges limits result =
      let u = unique_of q in
      ask_cases (SaysShort result) u
      (record {
        refusal = λ e may short. refusal result e (λ n. said_as_it_is room n e may);
        fault = λ f short. replied result (fault_reply f u) short;
        version = λ short. replied result (body_reply (bytes_of init_out version_out) u) short;
        nothing = λ short. silent result;
        asks = λ echo call same short t. (ap (checked_of room) t.0, t.1);
        lists = λ echo l same short t. (ap (checked_of room) t.0, t.1);
      })
      (λ a p short t. elim t as (λ x. Judges wanted q options interrupts room (WithMemory a) (checked_of room result) told) [
        | inl t ↦ inl (p short t)
        | inr t ↦ (let r = refusal result OutOfMemory (λ n. refl) t.1 in inr (t.0, r.0, r.1))
      ])
      limits options room q refl
      (λ small short. refusal result EncodeMessage (λ n. cramped_so room n (cramped_by limits options room (opcode_in q) (header_of q) small)))

  -- an INIT that is not of a later major version
  pub judges_version : (result : Asked) (h : InHeader) (r : InitInCompat) (flags2 : ℕ)
      → nat_lt KERNEL_VERSION r.major ≡ false → Says result (ask_version h r flags2)
  judges_version result h r flags2 not_later =
      either (Says result) (nat_lt r.major KERNEL_VERSION) (faulted eproto h) _
      (replied result (fault_reply (Some eproto) h.unique) (length-fault_reply (Some eproto) h.unique))
      (rw not_later
      (either (Says result) (nat_lt r.minor MIN_KERNEL_MINOR_VERSION) (faulted eproto h) _
      (replied result (fault_reply (Some eproto) h.unique) (length-fault_reply (Some eproto) h.unique))
      (λ t. (ap (checked_of room) t.0, t.1))))

-- our version has that many bytes
version_size : length (bytes_of init_out version_out) ≡ 64
unfolding little
version_size = refl

-- one of a later major version is told ours
pub judges_later : (q : List ℕ) (options room : ℕ) (told : CallData) (h : InHeader) (r : InitInCompat) (flags2 : ℕ)
    → nat_lt r.major KERNEL_VERSION ≡ false → nat_lt KERNEL_VERSION r.major ≡ true → told ≡ nothing
    → Judges ⊥ q options 0 room (ask_version h r flags2) (answered room 0 80) told
judges_later q options room told h r flags2 not_older later none =
    rw (not_older, later) (ap (answered room 0) (sym (length-body_reply (bytes_of init_out version_out) h.unique ∙ ap (λ (n : ℕ). 16 + n) version_size)), none)

-- where memory is wanted for less, no more is said
pub judges_less : (more less : Type 0) → (less → more) → (q : List ℕ) (options interrupts room : ℕ) (a : Ask)
    (result : Checked) (told : CallData) → Judges less q options interrupts room a result told
    → Judges more q options interrupts room a result told
judges_less more less f q o n room (Ends reply) result told j = j
judges_less more less f q o n room (Asks echo call) result told j = j
judges_less more less f q o n room (Lists echo l) result told j = j
judges_less more less f q o n room (WithMemory rest) result told (inl j) =
    inl (judges_less more less f q o n room rest result told j)
judges_less more less f q o n room (WithMemory rest) result told (inr j) = inr (f j.0, j.1, j.2)

-- ---- numbers

pub not_above : (limit len : ℕ) → len ≤ limit → nat_lt limit len ≡ false
not_above limit len h = grind (arith, nat_tests, h)

pub above_it : (limit len : ℕ) → nat_lt limit len ≡ false → limit < len → ⊥
above_it limit len below above = grind (arith, nat_tests, below, above)

interrupt : opcode_of 36 ≡ Some Interrupt
unfolding opcode_of
interrupt = refl

no_interrupt_by : (n : ℕ) (b : Bool) → (n == 36) ≡ b → opcode_of n ≡ Some Init → b ≡ false
no_interrupt_by n false test is = refl
no_interrupt_by n true test is =
    let same : n ≡ 36 = grind (arith, nat_tests, test) in
    let e : Some Interrupt ≡ Some Init = sym interrupt ∙ ap opcode_of (sym same) ∙ is in
    absurd (let a = e in cc)

-- an INIT is no INTERRUPT
pub no_interrupt : (n : ℕ) → opcode_of n ≡ Some Init → (n == 36) ≡ false
no_interrupt n is = no_interrupt_by n (n == 36) refl is

pub is_later : (major : ℕ) → KERNEL_VERSION < major → (nat_lt major KERNEL_VERSION ≡ false) × (nat_lt KERNEL_VERSION major ≡ true)
is_later major later = (grind (arith, nat_tests, later), grind (arith, nat_tests, later))

-- of a request with this header
pub judges_after : (wanted : Type 0) (q : List ℕ) (options interrupts room : ℕ) (writer writer_after : Written)
    (none : length writer.left ≡ 0) (told : CallData) (limits : Limits) (result : Asked) (h : InHeader) (rest : List ℕ)
    → record_of in_header q ≡ Ok h → drop (size_of in_header) q ≡ rest
    → EndsShort (ask_header limits options room h rest)
    → Tells wanted q options interrupts room (ask_header limits options room h rest) writer result writer_after told
    → Judges wanted q options interrupts room (ask_header limits options room h rest) (checked_of room result) told
judges_after wanted q options n room writer writer_after none told limits result h rest first following short tells =
    let asks : ask limits options room q ≡ ask_header limits options room h rest = rw (first, following) refl in
    subst (λ (a : Ask). Judges wanted q options n room a (checked_of room result) told) asks
    (judges wanted q options n room writer writer_after none told limits result
    (subst EndsShort (sym asks) short)
    (subst (λ (a : Ask). Tells wanted q options n room a writer result writer_after told) (sym asks) tells))
