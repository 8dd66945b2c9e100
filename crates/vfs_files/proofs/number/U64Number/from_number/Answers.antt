use Rattle.std.proofs.Common.{rules}
use Rattle.vfs_files.proofs.number.U64Number.from_number.Goals as goal

pub returns : goal.returns
returns c = search rules
