use Rattle.std.proofs.Common.{rules}
use Rattle.fs_nodes.proofs.node.Node.nlink.Goals as goal

pub returns-in-Some : goal.returns-in-Some
returns-in-Some c = search rules
