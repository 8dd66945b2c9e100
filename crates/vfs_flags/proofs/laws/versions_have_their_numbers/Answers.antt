use Rattle.std.proofs.Common.{rules}
use Rattle.vfs_flags.proofs.laws.versions_have_their_numbers.Goals as goal

pub returns-clause-minor : goal.returns-clause-minor
returns-clause-minor c = search rules
