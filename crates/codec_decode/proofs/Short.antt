-- A reply to a request that asks for no call is short.
use Rattle.std.proofs.Common.{◌≡◌, ◌⊎◌, ◌≤◌, ◌+◌, ℕ, Bool, true, false, List, [], length, drop, nat_lt, nat_le, IfOk, if◌then◌else◌, Option, Some, None, Result, Ok, Err, refl, subst, inl, inr, arith}
use Rattle.std.proofs.lemmas.Bool.Decides.{nat_tests}
use Rattle.vfs_flags.specs.Numbers.{enosys, opcode_of}
use Rattle.vfs_flags.specs.declared.opcode.Opcode.{Opcode}
use Rattle.vfs_flags.specs.declared.opcode.Opcode.TheVariants as opcode
use Rattle.vfs_wire.specs.Fields.{value_of, bytes_of, little}
use Rattle.vfs_wire.specs.Records.{in_header, init_out}
use Rattle.vfs_wire.specs.declared.headers.InHeader.{InHeader}
use Rattle.vfs_segments.specs.Written.{Written}
use Rattle.vfs_grammar.specs.Ask.{ask, ask_number, form_of}
use Rattle.vfs_grammar.specs.Words.{ask_header}
use Rattle.vfs_grammar.specs.Forms.{Ask, Ends, Asks, Lists, WithMemory, Form, ask_form, refused_or, faulted}
use Rattle.vfs_grammar.specs.Limits.{max_len}
use Rattle.vfs_grammar.specs.Records.{size_of}
use Rattle.vfs_grammar.specs.Reply.{Reply, Refusal, NoReply, Bytes, OpenAfter, body_reply, version_out}
use Rattle.vfs_grammar.specs.declared.limits.Limits.{Limits}
use Rattle.vfs_grammar.specs.declared.error.Error.{Error}
use Rattle.vfs_grammar.specs.declared.error.Error.TheVariants.{DecodeMessage, EncodeMessage, OutOfMemory}
use Rattle.vfs_grammar.proofs.Rooms.{length-fault_reply, length-body_reply}
use Rattle.laws_turns.proofs.Table.{Shows, form_shown, limit_shown}
use Rattle.vfs_messages.specs.Rooms.{Replies, IsShortReply, with_after}
use Rattle.vfs_messages.proofs.Rooms.{replies_after, with_none_after}
use Rattle.codec_calls.specs.declared.call.CallData.{CallData}
use Rattle.codec_decode.specs.Asked.{IsAsked, IsEnough, IsFinished, LiesWithin, Tells, longest_reply}
use Rattle.codec_decode.specs.declared.asked.Asked.{Asked}
use Rattle.codec_decode.specs.declared.asked.Asked.TheVariants as asked

-- where a request ends without a call, what comes back has at most that many bytes
abbrev pub IsShort : Ask → Type 0
IsShort (Ends reply) = IsShortReply longest_reply reply
IsShort (Asks echo call) = Unit {0}
IsShort (Lists echo l) = Unit {0}
IsShort (WithMemory rest) = IsShort rest

module _ (limits : Limits) (options space : ℕ) (h : InHeader) (rest : List ℕ) where
  fault : (number : ℕ) → IsShort (faulted number h)
  fault number = omega (arith, length-fault_reply (Some number) h.unique)

  version : IsShortReply longest_reply (Bytes (body_reply (bytes_of init_out version_out) h.unique))
  unfolding little
  version =
      let long : length (bytes_of init_out version_out) ≡ 64 = refl in
      omega (arith, long, length-body_reply (bytes_of init_out version_out) h.unique)

  by_form : (form : Form) → Shows IsShort h rest form → IsShort (ask_form h rest form)
  by_form form shown = form_shown IsShort h rest (λ e. tt) (λ number low high. fault number) (λ a p. p) form shown

  by_opcode : (o : Opcode) → IsShort (ask_form h rest (form_of limits options space h o))
  by_opcode opcode.Init = by_form (form_of limits options space h opcode.Init) (version, λ echo offered. tt)
  by_opcode opcode.Interrupt = by_form (form_of limits options space h opcode.Interrupt) tt
  by_opcode opcode.SetupMapping = by_form (form_of limits options space h opcode.SetupMapping) tt
  by_opcode opcode.RemoveMapping = by_form (form_of limits options space h opcode.RemoveMapping) tt
  by_opcode o = by_form (form_of limits options space h o) (λ x is. tt)

  by_number : (o : Option Opcode) → IsShort (ask_number limits options space o h rest)
  by_number None = fault enosys
  by_number (Some o) = by_opcode o

  pub short_header : IsShort (ask_header limits options space h rest)
  short_header =
      limit_shown IsShort h rest (λ e. tt) (λ number low high. fault number) (λ a p. p) (nat_lt (max_len limits) h.len) _
      (by_number (opcode_of h.opcode))

header_read : (short : Bool) (h : InHeader) (next : InHeader → Ask) → IsShort (next h)
    → IsShort (refused_or (if short then Err DecodeMessage else Ok h) next)
header_read true h next p = tt {0}
header_read false h next p = p

is_short : (limits : Limits) (options space : ℕ) (request : List ℕ) → IsShort (ask limits options space request)
is_short limits options space request =
    header_read (nat_lt (length request) (size_of in_header)) (value_of in_header request)
    (λ h. ask_header limits options space h (drop (size_of in_header) request))
    (short_header limits options space (value_of in_header request) (drop (size_of in_header) request))

-- ---- the room goes on after what the writer has

-- either there is no more room after, or a short reply fits before it
enough_after : (left following room : ℕ) → left + following ≡ room → IsEnough left room → (following ≡ 0) ⊎ (longest_reply ≤ left)
enough_after left following room sum (inl all) = inl (omega (arith, sum, all))
enough_after left following room sum (inr enough) = inr enough.0

module _ (wanted : Type 0) (q : List ℕ) (options interrupts room : ℕ) (writer writer_after : Written) (told : CallData) (following : List ℕ)
    (enough : (length following ≡ 0) ⊎ (longest_reply ≤ length writer.left)) where
  finished_after : (result : Asked) (reply : Reply) → IsShortReply longest_reply reply
      → IsFinished reply interrupts writer result writer_after told
      → IsFinished reply interrupts (with_after writer following) result (with_after writer_after following) told
  finished_after (asked.Finished outcome interrupted) reply short f =
      (replies_after longest_reply reply writer writer_after outcome following enough short f.0, f.1, f.2)
  finished_after asked.Call reply short f = absurd f

  told_following : (a : Ask) (result : Asked) → IsShort a → Tells wanted q options interrupts room a writer result writer_after told
      → Tells wanted q options interrupts room a (with_after writer following) result (with_after writer_after following) told
  told_following (Ends reply) result short t = finished_after result reply short t
  told_following (Asks echo call) result short t = t
  told_following (Lists echo l) result short t = t
  told_following (WithMemory rest) result short (inl t) = inl (told_following rest result short t)
  told_following (WithMemory rest) result short (inr t) = inr (t.0, finished_after result (Refusal OutOfMemory) tt t.1)

-- so what is told in the beginning of a room is told in all of it
pub told_in_room : (wanted : Type 0) (q : List ℕ) (limits : Limits) (options interrupts room : ℕ) (writer writer_after : Written) (told : CallData) (following : List ℕ) (result : Asked)
    → length writer.left + length following ≡ room → IsEnough (length writer.left) room
    → Tells wanted q options interrupts room (ask limits options room q) writer result writer_after told
    → Tells wanted q options interrupts room (ask limits options room q) (with_after writer following) result (with_after writer_after following) told
told_in_room wanted q limits options interrupts room writer writer_after told following result sum enough t =
    told_following wanted q options interrupts room writer writer_after told following
    (enough_after (length writer.left) (length following) room sum enough) (ask limits options room q) result (is_short limits options room q) t

-- ---- a reply lies within what the writer has left

put_within : (fits : Bool) (long space : ℕ) (outcome : Result ℕ Error) → nat_le long space ≡ fits
    → outcome ≡ (if fits then Ok long else Err EncodeMessage) → IfOk outcome (λ len. len ≤ space)
put_within true long space outcome test is = rw is (grind (arith, nat_tests, test))
put_within false long space outcome test is = rw is (tt {0})

reply_within : (reply : Reply) (writer writer_after : Written) (outcome : Result ℕ Error) → IsShortReply longest_reply reply
    → Replies reply writer outcome writer_after → IfOk outcome (λ len. len ≤ length writer.left)
reply_within (Refusal error) writer writer_after outcome short w = rw (w.0) (tt {0})
reply_within NoReply writer writer_after outcome short w = rw (w.0) (omega arith)
reply_within (Bytes reply) writer writer_after outcome short w =
    put_within (nat_le (length reply) (length writer.left)) (length reply) (length writer.left) outcome refl w.says.says
reply_within (OpenAfter reply) writer writer_after outcome short w = absurd short

finished_within : (interrupts : ℕ) (reply : Reply) (writer writer_after : Written) (told : CallData) (result : Asked) → IsShortReply longest_reply reply
    → IsFinished reply interrupts writer result writer_after told → LiesWithin (length writer.left) result
finished_within n reply writer writer_after told (asked.Finished outcome interrupted) short f = reply_within reply writer writer_after outcome short f.0
finished_within n reply writer writer_after told asked.Call short f = tt {0}

told_within : (wanted : Type 0) (q : List ℕ) (options interrupts room : ℕ) (a : Ask) (writer writer_after : Written) (told : CallData) (result : Asked) → IsShort a
    → Tells wanted q options interrupts room a writer result writer_after told → LiesWithin (length writer.left) result
told_within wanted q o n room (Ends reply) writer writer_after told result short t = finished_within n reply writer writer_after told result short t
told_within wanted q o n room (Asks echo call) writer writer_after told result short t = rw (t.0) (tt {0})
told_within wanted q o n room (Lists echo l) writer writer_after told result short t = rw (t.0) (tt {0})
told_within wanted q o n room (WithMemory rest) writer writer_after told result short (inl t) = told_within wanted q o n room rest writer writer_after told result short t
told_within wanted q o n room (WithMemory rest) writer writer_after told result short (inr t) = finished_within n (Refusal OutOfMemory) writer writer_after told result tt t.1

pub lies_within : (wanted : Type 0) (q : List ℕ) (limits : Limits) (options interrupts room : ℕ) (writer writer_after : Written) (told : CallData) (result : Asked)
    → Tells wanted q options interrupts room (ask limits options room q) writer result writer_after told → LiesWithin (length writer.left) result
lies_within wanted q limits options interrupts room writer writer_after told result t =
    told_within wanted q options interrupts room (ask limits options room q) writer writer_after told result (is_short limits options room q) t

-- the limits of small callers
abbrev pub usual : Limits
usual = record { page_size = 4096; max_buffer = 1048576 }

-- where the writer has all of the room
pub told_in_all : (limits : Limits) (options room : ℕ) (q : List ℕ) (writer writer_after : Written) (told : CallData) (result : Asked)
    → ((following : List ℕ) → length writer.left + length following ≡ room
    → IsAsked limits options q (with_after writer following) result (with_after writer_after following) told)
    → room ≡ length writer.left → IsAsked limits options q writer result writer_after told
told_in_all limits options room q writer writer_after told result is all =
    subst (λ (w : Written). IsAsked limits options q w result writer_after told) (with_none_after writer [] refl)
    (subst (λ (w : Written). IsAsked limits options q (with_after writer []) result w told) (with_none_after writer_after [] refl) (is [] (omega (arith, all))))
