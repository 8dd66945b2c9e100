-- Memory is wanted only for requests that are as long as they say.
use Rattle.std.proofs.Common.{◌≡◌, ◌≢◌, ◌≤◌, ◌+◌, ◌-◌, ◌*◌, ℕ, Bool, true, false, List, length, take, drop, nat_lt, if◌then◌else◌, Option, Some, None, Result, Ok, Err, IsOk, refl, ap, subst, arith, length-drop}
use Rattle.std.proofs.lemmas.Bool.Decides.{nat_tests}
use Rattle.vfs_flags.specs.declared.opcode.Opcode.{Opcode}
use Rattle.vfs_flags.specs.declared.opcode.Opcode.TheVariants.{BatchForget}
use Rattle.vfs_wire.specs.Fields.{Table, value_of}
use Rattle.vfs_wire.specs.Records.{batch_forget_in}
use Rattle.vfs_wire.specs.declared.entries.BatchForgetIn.{BatchForgetIn}
use Rattle.vfs_wire.specs.declared.headers.InHeader.{InHeader}
use Rattle.vfs_grammar.specs.Ask.{form_of}
use Rattle.vfs_grammar.specs.Memory.{header_of}
use Rattle.vfs_grammar.specs.Forms.{Layout, Without, Record, tail_of, pairs_of, Form, NoTail, NameTail, TwoNames, NameAndValue, NameAndExtensions, LinkAndExtensions, Pairs, WithRest, IntoRoom, Directories, Versions, Silent, NotServed}
use Rattle.laws_turns.specs.Turns.{TailIsWhole, PairsAreWhole, HasWhole, after_header, count_of_pairs, WantsMemory, WantsMemoryAfter}
use Rattle.vfs_grammar.specs.Books.{opcode_in}
use Rattle.vfs_grammar.specs.Records.{size_of, record_of}
use Rattle.vfs_grammar.specs.declared.limits.Limits.{Limits}
use Rattle.vfs_grammar.specs.declared.error.Error.{Error}
use Rattle.vfs_grammar.specs.declared.error.Error.TheVariants.{DecodeMessage, InvalidHeaderLength}

no_error : {A : Type 0} (b : Bool) (e : Error) (r : Result A Error) → IsOk (if b then Err e else r) → (b ≡ false) × IsOk r
no_error true e r ok = absurd (let a = ok in cc)
no_error false e r ok = (refl, ok)

the_value : {A : Type 0} (b : Bool) (e : Error) (v x : A) → (if b then Err e else Ok v) ≡ Ok x → (b ≡ false) × (x ≡ v)
the_value true e v x is = absurd (let a = is in cc)
the_value false e v x is = (refl, cc)

tail_len : (h : InHeader) (size : ℕ) (bytes : List ℕ) → IsOk (tail_of h size bytes) → h.len ≤ 40 + size + length bytes
tail_len h size bytes ok =
    let n = h.len - (40 + size) in
    let first = no_error (nat_lt h.len (40 + size)) InvalidHeaderLength (if nat_lt (length bytes) n then Err DecodeMessage else Ok (take n bytes)) ok in
    let second = no_error (nat_lt (length bytes) n) DecodeMessage (Ok (take n bytes)) first.1 in
    let test : nat_lt (length bytes) (h.len - (40 + size)) ≡ false = second.0 in
    grind (arith, nat_tests)

record_len : {R : Type 0} (t : Table R) (rest : List ℕ) → IsOk (record_of t rest) → size_of t ≤ length rest
record_len t rest ok =
    let test : nat_lt (length rest) (size_of t) ≡ false = (no_error (nat_lt (length rest) (size_of t)) DecodeMessage (Ok (value_of t rest)) ok).0 in
    grind (arith, nat_tests)

-- a whole tail is as long as `len` says
whole_tail : {R : Type 0} (h : InHeader) (rest : List ℕ) (l : Layout R) → TailIsWhole h rest l → h.len ≤ 40 + length rest
whole_tail h rest (Without r) w = tail_len h 0 rest w.whole_tail
whole_tail h rest (Record t) w =
    let tail = tail_len h (size_of t) (drop (size_of t) rest) w.whole_tail in
    let record_is = record_len t rest w.whole_record in
    omega (arith, tail, record_is, length-drop (size_of t) rest)

-- the form of pairs, which BATCH_FORGET alone has
abbrev IsForPairs : Form → Type 0
IsForPairs (Pairs l above count call) = Unit {0}
IsForPairs _ = ⊥

by_form : (h : InHeader) (rest : List ℕ) (form : Form) → HasWhole h rest form → (IsForPairs form → ⊥) → h.len ≤ 40 + length rest
by_form h rest (NoTail l above call) w other = absurd w
by_form h rest (NameTail l above call) w other = whole_tail h rest l w
by_form h rest (TwoNames l call) w other = whole_tail h rest l w
by_form h rest (NameAndValue l size call) w other = whole_tail h rest l w
by_form h rest (NameAndExtensions l options call) w other = whole_tail h rest l w
by_form h rest (LinkAndExtensions l options call) w other = whole_tail h rest l w
by_form h rest (Pairs l above count call) w other = absurd (other tt)
by_form h rest (WithRest l call) w other = absurd w
by_form h rest (IntoRoom l space call) w other = absurd w
by_form h rest (Directories l above space listing) w other = absurd w
by_form h rest Versions w other = absurd w
by_form h rest Silent w other = absurd w
by_form h rest NotServed w other = absurd w

module _ (limits : Limits) (options room : ℕ) where
  pairs_alone : (h : InHeader) (opcode : Opcode) → opcode ≢ BatchForget → IsForPairs (form_of limits options room h opcode) → ⊥
  pairs_alone h BatchForget other p = other refl
  pairs_alone h _ other p = p

  by_number : (h : InHeader) (rest : List ℕ) (opcode : Option Opcode) → opcode ≢ Some BatchForget
      → WantsMemoryAfter limits options room opcode h rest → h.len ≤ 40 + length rest
  by_number h rest None other w = absurd w
  by_number h rest (Some opcode) other w =
      by_form h rest (form_of limits options room h opcode) w (pairs_alone h opcode (λ e. other (ap Some e)))

  module _ (request : List ℕ) where
    -- a request for which memory is wanted has as many bytes as its `len` says
    pub as_long : opcode_in request ≢ Some BatchForget → WantsMemory limits options room request → (header_of request).len ≤ length request
    as_long other w =
        let long = by_number (header_of request) (after_header request) (opcode_in request) other w.form in
        omega (arith, long, w.header, length-drop 40 request)

    abbrev ThePairs : Type 0
    ThePairs = PairsAreWhole (after_header request) (Record batch_forget_in) (λ r. nat_lt limits.max_buffer (r.count * 16)) (λ r. r.count)

    the_pairs : opcode_in request ≡ Some BatchForget → WantsMemory limits options room request → ThePairs
    the_pairs is w = subst (λ (o : Option Opcode). WantsMemoryAfter limits options room o (header_of request) (after_header request)) is w.form

    the_count : (p : ThePairs) → (8 ≤ length (after_header request)) × (p.counts.count ≡ count_of_pairs request)
    the_count p =
        let bytes = after_header request in
        let found = the_value (nat_lt (length bytes) 8) DecodeMessage (value_of batch_forget_in bytes) p.counts p.whole_record in
        let test : nat_lt (length bytes) 8 ≡ false = found.0 in
        (grind (arith, nat_tests), ap (λ (r : BatchForgetIn). r.count) found.1)

    -- and where it is a BATCH_FORGET, all its pairs
    pub pairs_there : opcode_in request ≡ Some BatchForget → WantsMemory limits options room request → 48 + 16 * count_of_pairs request ≤ length request
    pairs_there is w =
        let p = the_pairs is w in
        let bytes = drop 8 (after_header request) in
        let test : nat_lt (length bytes) (p.counts.count * 16) ≡ false =
        (no_error (nat_lt (length bytes) (p.counts.count * 16)) DecodeMessage (Ok (pairs_of p.counts.count bytes)) p.whole_pairs).0 in
        let enough : p.counts.count * 16 ≤ length bytes = grind (arith, nat_tests) in
        let count = the_count p in
        omega (arith, enough, count.0, count.1, w.header, length-drop 8 (after_header request), length-drop 40 request)

    pub pairs_within : opcode_in request ≡ Some BatchForget → WantsMemory limits options room request → 16 * count_of_pairs request ≤ limits.max_buffer
    pairs_within is w =
        let p = the_pairs is w in
        let test : nat_lt limits.max_buffer (p.counts.count * 16) ≡ false = p.in_limit in
        let few : p.counts.count * 16 ≤ limits.max_buffer = grind (arith, nat_tests) in
        let count = the_count p in
        omega (arith, few, count.1)
