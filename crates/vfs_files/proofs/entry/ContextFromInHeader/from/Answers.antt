use Rattle.std.proofs.Common.{rules}
use Rattle.vfs_files.proofs.entry.ContextFromInHeader.from.Goals as goal

pub returns : goal.returns
returns c = search rules
