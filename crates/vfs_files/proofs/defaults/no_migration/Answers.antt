use Rattle.std.proofs.Common.{rules}
use Rattle.vfs_files.proofs.defaults.no_migration.Goals as goal

pub returns : goal.returns
returns c = search rules
