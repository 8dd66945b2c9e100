-- Of bytes that lie in one segment no tail is cut.
use Rattle.std.proofs.Common.{◌≡◌, ◌∙◌, ℕ, ◌+◌, ◌-◌, ◌&&◌, Bool, true, false, List, Option, Some, None, ap, arith, inl, inr, ◌⊎◌}
use Rattle.std.specs.Prelude.{IsTrue, IsFalse}
use Rattle.vfs_flags.specs.Flags.{security_ctx, has_flag}
use Rattle.vfs_flags.specs.declared.opcode.Opcode.{Opcode}
use Rattle.vfs_wire.specs.Records.{in_header}
use Rattle.vfs_wire.specs.declared.headers.InHeader.{InHeader}
use Rattle.vfs_segments.specs.Lengths.{lengths_from, lie_together}
use Rattle.vfs_segments.specs.Unread.{Unread}
use Rattle.vfs_grammar.specs.Ask.{form_of}
use Rattle.vfs_grammar.specs.Forms.{Layout, Without, Record, layout_size, Form, NoTail, NameTail, TwoNames, NameAndValue, NameAndExtensions, LinkAndExtensions, Pairs, WithRest, IntoRoom, Directories, Versions, Silent, NotServed}
use Rattle.vfs_messages.specs.Parts.{TailIsCut, pieces_after, MayHoldContext}
use Rattle.vfs_grammar.specs.Records.{size_of}
use Rattle.vfs_grammar.specs.declared.limits.Limits.{Limits}
use Rattle.vfs_server.specs.MemoryByPieces.{MayWantFor, MayWantAfter}
use Rattle.vfs_server.specs.Memory.{TailIsTogether, WantsNone, WantsNoneAfter}

-- both of two tests
second : (a b : Bool) → IsTrue (a && b) → IsTrue b
second true b t = t
second false b t = absurd (let e = t in cc)

apart : (b : Bool) → IsTrue b → IsFalse b → ⊥
apart true t f = absurd (let e = f in cc)
apart false t f = absurd (let e = t in cc)

module _ (following : (lengths : List ℕ) (k at n : ℕ) → lie_together at n (lengths_from k lengths) ≡ lie_together (k + at) n lengths) (u : Unread) where
  -- of what lies together after header and record, as it is seen from there
  from_record : {R : Type 0} (layout : Layout R) (n : ℕ) →
      lie_together 0 n (pieces_after layout (lengths_from (size_of in_header) u.pieces))
      ≡ lie_together (size_of in_header + layout_size layout) n u.pieces
  from_record (Without r) n = following u.pieces (size_of in_header) 0 n
  from_record (Record t) n =
      let none : size_of in_header + (size_of t + 0) ≡ size_of in_header + size_of t = omega arith in
      following (lengths_from (size_of in_header) u.pieces) (size_of t) 0 n
      ∙ following u.pieces (size_of in_header) (size_of t + 0) n
      ∙ ap (λ k. lie_together k n u.pieces) none

  whole : {R : Type 0} (h : InHeader) (layout : Layout R) → TailIsTogether h u layout
      → TailIsCut h (layout_size layout) (pieces_after layout (lengths_from (size_of in_header) u.pieces)) → ⊥
  whole h layout together cut =
      let n = h.len - (size_of in_header + layout_size layout) in
      let t = second _ (lie_together (size_of in_header + layout_size layout) n u.pieces) together in
      apart (lie_together 0 n (pieces_after layout (lengths_from (size_of in_header) u.pieces))) (from_record layout n ∙ t) cut

  -- of a form with a tail, and of one in whose tail a context may be
  with_context : {R : Type 0} (h : InHeader) (l : Layout R) (options : ℕ) → TailIsTogether h u l × IsFalse (has_flag options security_ctx)
      → TailIsCut h (layout_size l) (pieces_after l (lengths_from (size_of in_header) u.pieces)) ⊎ MayHoldContext options → ⊥
  with_context h l options n (inl w) = whole h l n.0 w
  with_context h l options n (inr w) = apart (has_flag options security_ctx) w n.1

  none_by_form : (h : InHeader) (form : Form) → WantsNone h u form → MayWantFor h (lengths_from (size_of in_header) u.pieces) form → ⊥
  none_by_form h (NoTail l above call) n w = w
  none_by_form h (NameTail l above call) n w = whole h l n w
  none_by_form h (TwoNames l call) n w = whole h l n w
  none_by_form h (NameAndValue l size call) n w = whole h l n w
  none_by_form h (NameAndExtensions l options call) n w = with_context h l options n w
  none_by_form h (LinkAndExtensions l options call) n w = with_context h l options n w
  none_by_form h (Pairs l above count call) n w = n
  none_by_form h (WithRest l call) n w = w
  none_by_form h (IntoRoom l space call) n w = w
  none_by_form h (Directories l above space listing) n w = w
  none_by_form h Versions n w = w
  none_by_form h Silent n w = w
  none_by_form h NotServed n w = w

  pub none_wanted : (limits : Limits) (options room : ℕ) (opcode : Option Opcode) (h : InHeader)
      → WantsNoneAfter limits options room opcode h u → MayWantAfter limits options room opcode h (lengths_from (size_of in_header) u.pieces) → ⊥
  none_wanted limits options room None h n w = w
  none_wanted limits options room (Some opcode) h n w = none_by_form h (form_of limits options room h opcode) n w
