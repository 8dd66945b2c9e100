use Rattle.std.proofs.Common.{rules}
use Rattle.vfs_run.proofs.error.exit_status.Goals as goal

pub returns-in-Err-BadLine : goal.returns-in-Err-BadLine
returns-in-Err-BadLine c = search rules
