use Rattle.std.proofs.Common.{sym, ap, arith}
use Rattle.fs_nodes.specs.Xattrs.{xattr_bytes, xattrs_of}
use Rattle.fs_nodes.proofs.Attributes.{in_order}
use Rattle.fs_nodes.proofs.xattrs.Xattrs.new.Goals as goal

pub invariant_of-result : goal.invariant_of-result
invariant_of-result c = (
  in_order c.new.result.entries c.new.ensures.ordered,
  ap (λ es. xattr_bytes (xattrs_of es)) (sym c.new.ensures.empty),
  omega arith,
)
