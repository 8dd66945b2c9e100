use Rattle.std.proofs.Common.{Some, length, sym, ap, ◌∙◌, arith}
use Rattle.fs_nodes.specs.Xattrs.{xattr_named}
use Rattle.fs_nodes.proofs.Attributes.{named_some, named_none, bytes_some}
use Rattle.fs_nodes.proofs.xattrs.Xattrs.get.Goals as goal

pub returns-in-Some-clause-value : goal.returns-in-Some-clause-value
returns-in-Some-clause-value c =
    ap (λ xattrs. xattr_named xattrs c.args.name.now) (sym c.self.view_is)
    ∙ named_some c.self.inside.values.entries c.args.name.now c.in-Some.value.now
    (sym c.in-Some.ensures.value)
    ∙ ap (λ v. Some v) (sym c.deref.ensures.value)

pub returns-in-Some-clause-most : goal.returns-in-Some-clause-most
returns-in-Some-clause-most c =
    omega (
      arith,
      bytes_some c.self.inside.values.entries c.args.name.now c.in-Some.value.now
          (sym c.in-Some.ensures.value),
      ap length c.deref.ensures.value,
      c.self.invariant.1,
      c.self.invariant.2,
    )

pub returns-in-None-clause-value : goal.returns-in-None-clause-value
returns-in-None-clause-value c =
    ap (λ xattrs. xattr_named xattrs c.args.name.now) (sym c.self.view_is)
    ∙ named_none c.self.inside.values.entries c.args.name.now (sym c.in-None.ensures.value)
