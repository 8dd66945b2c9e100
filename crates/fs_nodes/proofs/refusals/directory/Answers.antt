use Rattle.std.proofs.Common.{rules}
use Rattle.fs_nodes.proofs.refusals.directory.Goals as goal

pub returns-clause-ok : goal.returns-clause-ok
returns-clause-ok c = search rules
