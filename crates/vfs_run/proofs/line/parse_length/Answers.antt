use Rattle.std.proofs.Common.{rules}
use Rattle.vfs_run.proofs.line.parse_length.Goals as goal

pub returns-in-Some : goal.returns-in-Some
returns-in-Some c = search rules
