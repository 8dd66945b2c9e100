use Rattle.std.proofs.Common.{◌≡◌, ◌-◌, length, sym, ap, ◌∙◌, arith}
use Rattle.fs_nodes.specs.Xattrs.{xattr_bytes, without_xattr, xattrs_of}
use Rattle.fs_nodes.proofs.Attributes.{removed, in_order, bytes_some, bytes_left}
use Rattle.fs_nodes.proofs.xattrs.Xattrs.remove.Goals as goal

pub bytes_of-requires : goal.bytes_of-requires
bytes_of-requires c =
    omega (
      arith,
      bytes_some c.self.inside.values.entries c.args.name.now c.in-Some.gone
          (sym c.in-Some.ensures.value),
      ap length c.deref.ensures.value,
      c.self.invariant.1,
      c.self.invariant.2,
    )

pub overflow_sub-self : goal.overflow_sub-self
overflow_sub-self c =
    omega (
      arith,
      bytes_some c.self.inside.values.entries c.args.name.now c.in-Some.gone
          (sym c.in-Some.ensures.value),
      ap length c.deref.ensures.value,
      c.bytes_of.ensures,
      c.self.invariant.1,
    )

pub invariant_of-self : goal.invariant_of-self
invariant_of-self c =
    let old = c.self.inside.values.entries in
    let left : xattr_bytes (xattrs_of c.remove.new.self.entries)
    ≡ xattr_bytes (without_xattr (xattrs_of old) c.args.name.now) =
    ap (λ es. xattr_bytes (xattrs_of es)) c.remove.ensures.entries
    ∙ ap xattr_bytes (sym (removed c.args.name.now old)) in
    let counted : c.self.inside.bytes - c.bytes_of.result
    ≡ xattr_bytes (xattrs_of c.remove.new.self.entries) =
    omega (
      arith,
      left,
      bytes_left old c.args.name.now c.in-Some.gone (sym c.in-Some.ensures.value),
      ap length c.deref.ensures.value,
      c.bytes_of.ensures,
      c.self.invariant.1,
    ) in (
      in_order c.remove.new.self.entries c.remove.ensures.ordered,
      counted,
      omega (arith, c.self.invariant.2),
    )

pub returns-in-Some : goal.returns-in-Some
returns-in-Some c =
    ap xattrs_of c.remove.ensures.entries
    ∙ sym (removed c.args.name.now c.self.inside.values.entries)
    ∙ ap (λ xattrs. without_xattr xattrs c.args.name.now) c.self.view_is

pub returns-in_default : goal.returns-in_default
returns-in_default c =
    ap xattrs_of c.remove.ensures.entries
    ∙ sym (removed c.args.name.now c.self.inside.values.entries)
    ∙ ap (λ xattrs. without_xattr xattrs c.args.name.now) c.self.view_is
