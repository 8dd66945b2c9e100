use Rattle.std.proofs.Common.{rules}
use Rattle.fs_nodes.proofs.node.Node.set_attr.Goals as goal

pub returns : goal.returns
returns c = search rules
