use Rattle.std.proofs.Common.{arith}
use Rattle.std.proofs.lemmas.Grind.{common_steps}
use Rattle.vfs_run.proofs.line.parse_line.Goals as goal

pub returns-in_default-3-clause-read : goal.returns-in_default-3-clause-read
returns-in_default-3-clause-read c = grind (arith, common_steps)

pub returns-clause-read : goal.returns-clause-read
returns-clause-read c = grind (arith, common_steps)
