use Rattle.std.proofs.Common.{rules}
use Rattle.vfs_run.proofs.limit.lines_before_requests.Goals as goal

pub returns-clause-value : goal.returns-clause-value
returns-clause-value c = search rules
