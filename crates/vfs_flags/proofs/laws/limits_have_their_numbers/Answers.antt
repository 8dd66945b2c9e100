use Rattle.std.proofs.Common.{rules}
use Rattle.vfs_flags.proofs.laws.limits_have_their_numbers.Goals as goal

pub returns-clause-default : goal.returns-clause-default
returns-clause-default c = search rules
