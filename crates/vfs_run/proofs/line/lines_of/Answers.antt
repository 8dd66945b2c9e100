use Rattle.std.proofs.Common.{arith}
use Rattle.std.proofs.lemmas.Grind.{common_steps}
use Rattle.vfs_run.proofs.line.lines_of.Goals as goal

pub returns-in-Some-eq10-default-clause-lines : goal.returns-in-Some-eq10-default-clause-lines
returns-in-Some-eq10-default-clause-lines c = grind (arith, common_steps)
