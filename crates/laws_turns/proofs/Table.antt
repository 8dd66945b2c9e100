-- The table of the protocol, read for the books: for each opcode, that the call which a request asks
-- for answers the nodes that a reply to it has after its header, and gives back what the request's
-- bytes say.
use Rattle.std.proofs.Common.{◌≡◌, ◌<◌, ◌*◌, ◌^◌, ℕ, Bool, true, false, if◌then◌else◌, nat_lt, List, [], ◌∷◌, length, drop, Option, Some, None, Result, Ok, Err, refl, ap, ◌∙◌, arith}
use Rattle.std.proofs.lemmas.List.{drop-drop}
use Rattle.vfs_flags.specs.Numbers.{enomem, enosys, eproto}
use Rattle.vfs_flags.specs.declared.constants.TheConstants.{KERNEL_VERSION, MIN_KERNEL_MINOR_VERSION}
use Rattle.vfs_flags.specs.declared.opcode.Opcode.{Opcode}
use Rattle.vfs_flags.specs.declared.opcode.Opcode.TheVariants.{Forget, BatchForget, Init, Interrupt, Readdir, Readdirplus, SetupMapping, RemoveMapping}
use Rattle.vfs_wire.specs.Fields.{Table, bytes_of, value_of}
use Rattle.vfs_wire.specs.Records.{in_header, init_in_compat, init_out, forget_in, forget_one, batch_forget_in}
use Rattle.vfs_wire.specs.declared.entries.BatchForgetIn.{BatchForgetIn}
use Rattle.vfs_wire.specs.declared.entries.ForgetIn.{ForgetIn}
use Rattle.vfs_wire.specs.declared.headers.InHeader.{InHeader}
use Rattle.vfs_wire.specs.declared.init.InitInCompat.{InitInCompat}
use Rattle.vfs_files.specs.Calls.{Call}
use Rattle.vfs_files.specs.Calls as call
use Rattle.vfs_files.specs.Values.{ExtensionValues}
use Rattle.vfs_grammar.specs.Ask.{form_of, ask_number, ask}
use Rattle.vfs_grammar.specs.Words.{ask_header, refused, silent, name_in, u32_at, u64_at, pairs_at, following}
use Rattle.vfs_grammar.specs.Forms.{Ask, Ends, Asks, Lists, WithMemory, faulted, refused_or, within, tail_of, two_names_in, value_in, extended_in, link_in_tail, pairs_of, pairs_in, space_after_header, second_flags, ask_version, Layout, layout_size, layout_record, Form, NoTail, NameTail, TwoNames, NameAndValue, NameAndExtensions, LinkAndExtensions, Pairs, WithRest, IntoRoom, Directories, Versions, Silent, NotServed, ask_form}
use Rattle.vfs_grammar.specs.Limits.{max_len}
use Rattle.vfs_grammar.specs.Records.{size_of, record_of}
use Rattle.vfs_grammar.specs.Reply.{Reply, Refusal, NoReply, Bytes, OpenAfter, Echo, echo_of, body_reply, version_out}
use Rattle.vfs_grammar.specs.declared.limits.Limits.{Limits}
use Rattle.vfs_grammar.specs.declared.error.Error.{Error}
use Rattle.vfs_grammar.specs.declared.error.Error.TheVariants.{DecodeMessage}
use Rattle.vfs_grammar.proofs.Refusing.{either}
use Rattle.vfs_grammar.proofs.Rooms.{length-fault_reply, length-body_reply}
use Rattle.vfs_grammar.specs.Books.{opcode_in, nodes_after, delivered_nodes, forgets_of, forgets_in}
use Rattle.laws_turns.proofs.Decoding.{delivered_nodes-fault, delivered_nodes-body, pairs_of-pairs_at}
use Rattle.laws_turns.proofs.ListedNodes.{ListsFor}
use Rattle.laws_turns.proofs.Saying.{has_entry}

-- ---- every case of a form

module _ (P : Ask → Type 0) (h : InHeader) (rest : List ℕ) where
  -- what is to be shown for P to hold of each request of a form: that it holds of each call that the
  -- form asks for
  abbrev pub Shows : Form → Type 0
  Shows (NoTail {R} layout above call) =
      (r : R) → layout_record layout rest ≡ Ok r → P (Asks (echo_of h) (call r))
  Shows (NameTail {R} layout above call) =
      (x : R × List ℕ) → layout_record layout rest ≡ Ok x.0 → P (Asks (echo_of h) (call x.0 x.1))
  Shows (TwoNames {R} layout call) =
      (x : R × List ℕ × List ℕ) → layout_record layout rest ≡ Ok x.0 → P (Asks (echo_of h) (call x.0 x.1 x.2))
  Shows (NameAndValue {R} layout size call) =
      (x : R × List ℕ × List ℕ) → layout_record layout rest ≡ Ok x.0 → P (Asks (echo_of h) (call x.0 x.1 x.2))
  Shows (NameAndExtensions {R} layout options call) =
      (x : R × List ℕ × ExtensionValues) → layout_record layout rest ≡ Ok x.0 → P (Asks (echo_of h) (call x.0 x.1 x.2))
  Shows (LinkAndExtensions {R} layout options call) =
      (x : R × List ℕ × List ℕ × ExtensionValues) → layout_record layout rest ≡ Ok x.0 → P (Asks (echo_of h) (call x.0 x.1 x.2 x.3))
  Shows (Pairs {R} layout above count call) =
      (x : R × List (ℕ × ℕ)) → (layout_record layout rest ≡ Ok x.0) × (pairs_in (count x.0) (following layout rest) ≡ Ok x.1)
      → P (Asks (echo_of h) (call x.0 x.1))
  Shows (WithRest {R} layout call) =
      (x : R × List ℕ) → layout_record layout rest ≡ Ok x.0 → P (Asks (echo_of h) (call x.0 x.1))
  Shows (IntoRoom {R} layout room call) =
      (x : R × ℕ) → layout_record layout rest ≡ Ok x.0 → P (Asks (echo_of h) (call x.0 x.1))
  Shows (Directories {R} layout above room listing) =
      (x : R × ℕ) → layout_record layout rest ≡ Ok x.0 → P (Lists (echo_of h) (listing x.0 x.1))
  Shows Versions =
      P (Ends (Bytes (body_reply (bytes_of init_out version_out) h.unique)))
      × ((echo : Echo) (offered : ℕ) → P (Asks echo (call.Init offered)))
  Shows Silent = P silent
  Shows NotServed = Unit {0}

  module _ (refusal : (e : Error) → P (refused e))
      (fault : (number : ℕ) → 0 < number → number < 2 ^ 31 → P (faulted number h))
      (copies : (a : Ask) → P a → P (WithMemory a)) where
    part_shown : {A : Type 0} (r : Result A Error) (next : A → Ask) → ((x : A) → r ≡ Ok x → P (next x)) → P (refused_or r next)
    part_shown (Err e) next p = refusal e
    part_shown (Ok x) next p = p x refl

    pub limit_shown : (above : Bool) (next : Ask) → P next → P (within above h next)
    limit_shown true next p = fault enomem (omega arith) (omega arith)
    limit_shown false next p = p

    -- after a record a tail, which is copied
    tail_shown : {R : Type 0} (layout : Layout R) (next : R → List ℕ → Ask)
        → ((r : R) (tail : List ℕ) → layout_record layout rest ≡ Ok r → P (next r tail))
        → P (refused_or (layout_record layout rest) (λ r.
        refused_or (tail_of h (layout_size layout) (following layout rest)) (λ tail. WithMemory (next r tail))))
    tail_shown layout next p =
        part_shown (layout_record layout rest) _ (λ r is.
        part_shown (tail_of h (layout_size layout) (following layout rest)) _ (λ tail whole.
        copies (next r tail) (p r tail is)))

    version_shown : (r : InitInCompat) (flags2 : ℕ) → Shows Versions → P (ask_version h r flags2)
    version_shown r flags2 s =
        either P (nat_lt r.major KERNEL_VERSION) _ _ (fault eproto (omega arith) (omega arith))
        (either P (nat_lt KERNEL_VERSION r.major) _ _ s.0
        (either P (nat_lt r.minor MIN_KERNEL_MINOR_VERSION) _ _ (fault eproto (omega arith) (omega arith)) (s.1 _ _)))

    pub form_shown : (form : Form) → Shows form → P (ask_form h rest form)
    form_shown (NoTail layout above call) s =
        part_shown (layout_record layout rest) _ (λ r is. limit_shown (above r) _ (s r is))
    form_shown (NameTail layout above call) s =
        tail_shown layout _ (λ r tail is. limit_shown (above r) _ (part_shown (name_in tail) _ (λ name found. s (r, name) is)))
    form_shown (TwoNames layout call) s =
        tail_shown layout _ (λ r tail is. part_shown (two_names_in tail) _ (λ names found. s (r, names.0, names.1) is))
    form_shown (NameAndValue layout size call) s =
        tail_shown layout _ (λ r tail is. part_shown (value_in (size r) tail) _ (λ part found. s (r, part.0, part.1) is))
    form_shown (NameAndExtensions layout options call) s =
        tail_shown layout _ (λ r tail is. part_shown (extended_in options tail) _ (λ part found. s (r, part.0, part.1) is))
    form_shown (LinkAndExtensions layout options call) s =
        tail_shown layout _ (λ r tail is. part_shown (link_in_tail options tail) _ (λ part found. s (r, part.0, part.1, part.2) is))
    form_shown (Pairs layout above count call) s =
        part_shown (layout_record layout rest) _ (λ r is. limit_shown (above r) _
        (part_shown (pairs_in (count r) (following layout rest)) _ (λ pairs whole. copies _ (s (r, pairs) (is, whole)))))
    form_shown (WithRest layout call) s = part_shown (layout_record layout rest) _ (λ r is. s (r, following layout rest) is)
    form_shown (IntoRoom layout room call) s =
        part_shown (layout_record layout rest) _ (λ r is. part_shown (space_after_header room) _ (λ n fits. s (r, n) is))
    form_shown (Directories layout above room listing) s =
        part_shown (layout_record layout rest) _ (λ r is. limit_shown (above r) _
        (part_shown (space_after_header room) _ (λ n fits. s (r, n) is)))
    form_shown Versions s =
        part_shown (record_of init_in_compat rest) _ (λ r is.
        part_shown (second_flags r.flags (drop (size_of init_in_compat) rest)) _ (λ flags2 found. version_shown r flags2 s))
    form_shown Silent s = s
    form_shown NotServed s = fault enosys (omega arith) (omega arith)

-- ---- what the books want of a request

-- a call answers the nodes that a reply to this opcode has, and gives back what the request says
pub record CallFits (opcode : Option Opcode) (request : List ℕ) (c : Call) : Type 0 where
  pub nodes : (reply : List ℕ) → nodes_after opcode reply ≡ (if has_entry c then u64_at 16 reply ∷ [] else [])
  pub forgets : forgets_of c ≡ forgets_in opcode request

-- what comes back without a call delivers no node, and is nothing only where nothing is given back
abbrev pub ReplyFits : Option Opcode → (request : List ℕ) → Reply → Type 0
ReplyFits opcode request (Refusal error) = Unit {0}
ReplyFits opcode request NoReply = forgets_in opcode request ≡ []
ReplyFits opcode request (Bytes reply) = (0 < length reply) × (delivered_nodes opcode reply ≡ [])
ReplyFits opcode request (OpenAfter reply) = ⊥

-- what a request asks, by its opcode and its bytes
abbrev pub AskFits : Option Opcode → (request : List ℕ) → Ask → Type 0
AskFits opcode request (Ends reply) = ReplyFits opcode request reply
AskFits opcode request (Asks echo c) = CallFits opcode request c
AskFits opcode request (Lists echo l) = ListsFor l.plus opcode
AskFits opcode request (WithMemory rest) = AskFits opcode request rest

fault_fits : (opcode : Option Opcode) (request : List ℕ) (h : InHeader) (number : ℕ) → 0 < number → number < 2 ^ 31
    → AskFits opcode request (faulted number h)
fault_fits opcode request h number low high =
    (omega (arith, length-fault_reply (Some number) h.unique), delivered_nodes-fault opcode (Some number) h.unique low high)

-- the record that was read is the one that the bytes have
record_is : {R : Type 0} (t : Table R) (bytes : List ℕ) (r : R) → record_of t bytes ≡ Ok r → r ≡ value_of t bytes
record_is t bytes r is = by (nat_lt (length bytes) (size_of t)) is where
  by : (short : Bool) → (if short then Err DecodeMessage else Ok (value_of t bytes)) ≡ Ok r → r ≡ value_of t bytes
  by true e = absurd cc
  by false e = cc

pairs_are : (count : ℕ) (bytes : List ℕ) (pairs : List (ℕ × ℕ)) → pairs_in count bytes ≡ Ok pairs → pairs ≡ pairs_of count bytes
pairs_are count bytes pairs are = by (nat_lt (length bytes) (count * size_of forget_one)) are where
  by : (short : Bool) → (if short then Err DecodeMessage else Ok (pairs_of count bytes)) ≡ Ok pairs → pairs ≡ pairs_of count bytes
  by true e = absurd cc
  by false e = cc

module _ (limits : Limits) (options room : ℕ) (request : List ℕ) where
  head : InHeader
  head = value_of in_header request

  rest : List ℕ
  rest = drop (size_of in_header) request

  -- the table: of each opcode but these, the call that it asks for gives back nothing, and answers
  -- an entry just where its reply has one
  opcode_fits : (o : Opcode) → Shows (AskFits (Some o) request) head rest (form_of limits options room head o)
  unfolding head rest
  opcode_fits Forget = λ r is. record {
    nodes = λ reply. refl;
    forgets = ap (λ (f : ForgetIn). (u64_at 16 request, f.nlookup) ∷ []) (record_is forget_in (drop 40 request) r is);
  }
  opcode_fits BatchForget = λ x are. record {
    nodes = λ reply. refl;
    forgets =
        pairs_are x.0.count (drop 8 (drop 40 request)) x.1 are.1
        ∙ pairs_of-pairs_at x.0.count (drop 8 (drop 40 request))
        ∙ ap (λ (r : BatchForgetIn). pairs_at r.count (drop 8 (drop 40 request))) (record_is batch_forget_in (drop 40 request) x.0 are.0)
        ∙ ap (pairs_at (u32_at 40 request)) (drop-drop 8 40 request);
  }
  opcode_fits Init = (
    (omega (arith, length-body_reply (bytes_of init_out version_out) head.unique), delivered_nodes-body (Some Init) (bytes_of init_out version_out) head.unique),
    λ echo offered. record { nodes = λ reply. refl; forgets = refl },
  )
  opcode_fits Interrupt = refl
  opcode_fits Readdir = λ x is. record { nodes = λ reply. refl }
  opcode_fits Readdirplus = λ x is. record { nodes = λ reply. refl }
  opcode_fits SetupMapping = tt
  opcode_fits RemoveMapping = tt
  opcode_fits _ = λ x is. record { nodes = λ reply. refl; forgets = refl }

  number_fits : (o : Option Opcode) → AskFits o request (ask_number limits options room o head rest)
  number_fits None = fault_fits None request head enosys (omega arith) (omega arith)
  number_fits (Some o) =
      form_shown (AskFits (Some o) request) head rest (λ e. tt) (fault_fits (Some o) request head) (λ a p. p)
      (form_of limits options room head o) (opcode_fits o)

  -- what the bytes ask, by what they say
  pub ask_fits : AskFits (opcode_in request) request (ask limits options room request)
  unfolding head rest
  ask_fits =
      let P : Ask → Type 0 = AskFits (opcode_in request) request in
      either (λ r. P (refused_or r (λ h. ask_header limits options room h rest))) (nat_lt (length request) (size_of in_header))
      (Err DecodeMessage) (Ok head) tt
      (limit_shown P head rest (λ e. tt) (fault_fits (opcode_in request) request head) (λ a p. p)
      (nat_lt (max_len limits) head.len) _ (number_fits (opcode_in request)))
