use Rattle.std.proofs.Common.{rules}
use Rattle.vfs_run.proofs.limit.max_buffer_for.Goals as goal

pub returns-in-Some-clause-limit : goal.returns-in-Some-clause-limit
returns-in-Some-clause-limit c = search rules
