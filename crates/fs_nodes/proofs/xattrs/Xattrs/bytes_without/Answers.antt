use Rattle.std.proofs.Common.{length, subst, sym, ap, ◌∙◌, arith}
use Rattle.fs_nodes.specs.Xattrs.{AreInOrder, xattr_bytes, without_xattr}
use Rattle.fs_nodes.proofs.Attributes.{bytes_some, bytes_left, bytes_none}
use Rattle.fs_nodes.proofs.xattrs.Xattrs.bytes_without.Goals as goal

pub bytes_of-requires : goal.bytes_of-requires
bytes_of-requires c =
    omega (
      arith,
      bytes_some c.self.inside.values.entries c.args.name.now c.in-Some.value.now
          (sym c.in-Some.ensures.value),
      ap length c.deref.ensures.value,
      c.self.invariant.1,
      c.self.invariant.2,
    )

pub overflow_sub-result : goal.overflow_sub-result
overflow_sub-result c =
    omega (
      arith,
      bytes_some c.self.inside.values.entries c.args.name.now c.in-Some.value.now
          (sym c.in-Some.ensures.value),
      ap length c.deref.ensures.value,
      c.bytes_of.ensures,
      c.self.invariant.1,
    )

pub returns-in-Some-clause-bytes : goal.returns-in-Some-clause-bytes
returns-in-Some-clause-bytes c =
    omega (
      arith,
      bytes_left c.self.inside.values.entries c.args.name.now c.in-Some.value.now
          (sym c.in-Some.ensures.value),
      ap length c.deref.ensures.value,
      c.bytes_of.ensures,
      c.self.invariant.1,
      ap (λ l. xattr_bytes (without_xattr l c.args.name.now)) c.self.view_is,
    )

pub returns-in-None-clause-bytes : goal.returns-in-None-clause-bytes
returns-in-None-clause-bytes c =
    c.self.invariant.1
    ∙ sym (bytes_none c.self.inside.values.entries c.args.name.now (sym c.in-None.ensures.value))
    ∙ ap (λ l. xattr_bytes (without_xattr l c.args.name.now)) c.self.view_is

pub returns-in-Some-clause-order : goal.returns-in-Some-clause-order
returns-in-Some-clause-order c = subst AreInOrder c.self.view_is c.self.invariant.0

pub returns-in-None-clause-order : goal.returns-in-None-clause-order
returns-in-None-clause-order c = subst AreInOrder c.self.view_is c.self.invariant.0

pub returns-in-Some-clause-most : goal.returns-in-Some-clause-most
returns-in-Some-clause-most c = omega (arith, c.self.invariant.2)

pub returns-in-None-clause-most : goal.returns-in-None-clause-most
returns-in-None-clause-most c = c.self.invariant.2
