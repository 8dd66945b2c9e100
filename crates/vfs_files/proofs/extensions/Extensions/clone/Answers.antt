use Rattle.std.proofs.Common.{rules}
use Rattle.vfs_files.proofs.extensions.Extensions.clone.Goals as goal

pub returns-clause-same : goal.returns-clause-same
returns-clause-same c = search rules
