use Rattle.std.proofs.Common.{rules, arith}
use Rattle.vfs_run.proofs.limit.parse_limit.Goals as goal

pub returns-clause-limit : goal.returns-clause-limit
returns-clause-limit c = search rules

pub returns-clause-within : goal.returns-clause-within
returns-clause-within c = (omega arith, omega arith)
