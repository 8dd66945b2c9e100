-- What is told at once is what is asked.
use Rattle.std.specs.Prelude.{⊤}
use Rattle.std.proofs.Common.{◌≡◌, ◌≢◌, ◌≤◌, ◌<◌, ◌^◌, ◌++◌, ◌==◌, ◌∙◌, ℕ, Bool, true, false, List, length, take, drop, nat_lt, if◌then◌else◌, Ok, Err, Some, refl, ap, subst, sym, inl, arith, length-append}
use Rattle.std.proofs.lemmas.Bool.Decides.{nat_tests}
use Rattle.std.proofs.Math.Seq.{drop-append_seam, take-append_seam}
use Rattle.vfs_flags.specs.Flags.{fs_options_bits}
use Rattle.vfs_flags.specs.Numbers.{opcode_of}
use Rattle.vfs_flags.specs.declared.opcode.Opcode.{Opcode}
use Rattle.vfs_flags.specs.declared.opcode.Opcode.TheVariants as opcode
use Rattle.vfs_wire.specs.FieldLaws.{value_of-take}
use Rattle.vfs_wire.specs.Fields.{value_of}
use Rattle.vfs_wire.specs.Records.{in_header}
use Rattle.vfs_wire.specs.declared.headers.InHeader.{InHeader}
use Rattle.vfs_segments.specs.Written.{Written}
use Rattle.vfs_grammar.specs.Words.{ask_header, ask_opcode}
use Rattle.vfs_grammar.specs.Forms.{Ask, Ends, Asks, Lists, WithMemory}
use Rattle.vfs_grammar.specs.Limits.{max_len}
use Rattle.vfs_grammar.specs.Records.{record_of}
use Rattle.vfs_grammar.specs.declared.error.Error.TheVariants.{DecodeMessage}
use Rattle.vfs_grammar.specs.declared.limits.Limits.{Limits}
use Rattle.codec_calls.specs.declared.call.CallData.{CallData}
use Rattle.codec_decode.specs.Asked.{IsTold, Tells}
use Rattle.codec_decode.specs.AtOnce.{AsksAfterHeader, AsksAtOnce, AsksForCall, IsAskedMost, IsCallAsked, IsCallTold, IsToldAtOnce, TellsAtOnce}
use Rattle.codec_decode.specs.Contexts.{may_have_context}
use Rattle.codec_decode.specs.Parts.{told_with}
use Rattle.codec_decode.specs.declared.asked.Asked.TheVariants as asked
use Rattle.codec_decode.specs.declared.asked.Terms.{Terms}
use Rattle.codec_decode.proofs.Placing.{CallIsTold, ListingIsTold, OfCall, header_fits, told_by_opcode}

tells_call : (q : List ℕ) (options room : ℕ) (writer writer_after : Written) (h : InHeader) (len : ℕ) (o : Opcode) (a : Ask) (told_call : CallData)
    → OfCall (CallIsTold q h options room len o) (ListingIsTold q h options room len o) a
    → IsCallTold a (told_with h.unique options room len o) told_call
    → Tells ⊤ q options 0 room a writer asked.Call writer_after told_call
tells_call q options room writer writer_after h len o (Ends reply) told_call is n = absurd n
tells_call q options room writer writer_after h len o (Asks echo c) told_call is n =
    (refl, subst (λ (d : CallData). IsTold q options room echo c d) (sym n) is)
tells_call q options room writer writer_after h len o (Lists echo l) told_call is n = absurd n
tells_call q options room writer writer_after h len o (WithMemory rest) told_call is n =
    inl (tells_call q options room writer writer_after h len o rest told_call is n)

not_above : (limit len : ℕ) → len ≤ limit → nat_lt limit len ≡ false
not_above limit len h = grind (arith, nat_tests, h)

other_number : (n : ℕ) → (n ≡ 36 → ⊥) → (n == 36) ≡ false
other_number n other = grind (arith, nat_tests, other)

-- the call that is told of a request of this opcode is that of its header
pub tells_at_once : (terms : Terms) (h : InHeader) (rest : List ℕ) (o : Opcode) (told_call : CallData)
    → terms.len < 2 ^ 64 → h.len ≤ max_len terms.limits → (h.opcode ≡ 36 → ⊥) → opcode_of h.opcode ≡ Some o
    → o ≢ opcode.Init → o ≢ opcode.Readdir → o ≢ opcode.Readdirplus → may_have_context (fs_options_bits terms.options) o ≡ false
    → IsToldAtOnce terms o h rest told_call → TellsAtOnce terms h rest told_call
tells_at_once terms h rest o told_call fits within other known no_init no_readdir no_plus lacks n = λ writer writer_after request long first following.
    let options = fs_options_bits terms.options in
    let below : nat_lt (max_len terms.limits) h.len ≡ false = not_above (max_len terms.limits) h.len within in
    let number = other_number h.opcode other in
    let is = rw following at (told_by_opcode request h (header_fits request h first) terms.limits options terms.room terms.len long fits o no_init no_readdir no_plus lacks) in
    rw (below, known, number)
    (tells_call request options terms.room writer writer_after h terms.len o
    (ask_opcode terms.limits options terms.room o h rest) told_call is n)

-- what asks for a call by its header does so by its opcode
pub asks_by_opcode : (terms : Terms) (h : InHeader) (rest : List ℕ) (o : Opcode) → h.len ≤ max_len terms.limits
    → opcode_of h.opcode ≡ Some o → AsksAfterHeader terms h rest → AsksForCall terms o h rest
asks_by_opcode terms h rest o within known asks =
    let below : nat_lt (max_len terms.limits) h.len ≡ false = not_above (max_len terms.limits) h.len within in
    rw (below, known) at asks

-- ---- bytes of a header, and others after them

header_whole : (short : Bool) (v h : InHeader) → (if short then Err DecodeMessage else Ok v) ≡ Ok h → v ≡ h
header_whole true v h e = absurd (let a = e in cc)
header_whole false v h e = cc

pub front_header : (head rest : List ℕ) (h : InHeader) → length head ≡ 40 → record_of in_header head ≡ Ok h
    → record_of in_header (head ++ rest) ≡ Ok h
front_header head rest h long is =
    let total : 40 ≤ length (head ++ rest) = omega (arith, long, length-append head rest) in
    let whole : nat_lt (length (head ++ rest)) 40 ≡ false = grind (arith, nat_tests, total) in
    let front : take 40 (head ++ rest) ≡ head = ap (λ (n : ℕ). take n (head ++ rest)) (sym long) ∙ take-append_seam head rest in
    let same : value_of in_header head ≡ value_of in_header (head ++ rest) =
    ap (value_of in_header) (sym front) ∙ value_of-take in_header 40 (head ++ rest) (omega (arith, total)) in
    let v : value_of in_header head ≡ h = header_whole (nat_lt (length head) 40) (value_of in_header head) h is in
    rw (whole, sym same, v) refl

pub front_rest : (head rest : List ℕ) → length head ≡ 40 → drop 40 (head ++ rest) ≡ rest
front_rest head rest long = ap (λ (n : ℕ). drop n (head ++ rest)) (sym long) ∙ drop-append_seam head rest

header_in_front : (head rest : List ℕ) (h : InHeader) → length head ≡ 40 → record_of in_header head ≡ Ok h
    → value_of in_header (head ++ rest) ≡ h
header_in_front head rest h long is =
    header_whole (nat_lt (length (head ++ rest)) 40) (value_of in_header (head ++ rest)) h (front_header head rest h long is)

module _ (limits : Limits) (options room : ℕ) (head rest : List ℕ) (h : InHeader) (long : length head ≡ 40)
    (is : record_of in_header head ≡ Ok h) where
  -- a request is told at once if its header has one of the four opcodes, and asks for a call
  pub asks_whole : IsAskedMost h.opcode → IsCallAsked (ask_header limits options room h rest)
      → AsksAtOnce limits options room (head ++ rest)
  asks_whole most asks = (
    subst (λ (g : InHeader). IsAskedMost g.opcode) (sym (header_in_front head rest h long is)) most,
    rw (front_header head rest h long is, front_rest head rest long) asks,
  )

  -- and only then
  pub asks_of_whole : AsksAtOnce limits options room (head ++ rest)
      → IsAskedMost h.opcode × IsCallAsked (ask_header limits options room h rest)
  asks_of_whole asks = (
    subst (λ (g : InHeader). IsAskedMost g.opcode) (header_in_front head rest h long is) asks.0,
    rw (front_header head rest h long is, front_rest head rest long) at asks.1,
  )
