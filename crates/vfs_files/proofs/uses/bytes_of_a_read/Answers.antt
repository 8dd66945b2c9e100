use Rattle.std.proofs.Common.{rules}
use Rattle.vfs_files.proofs.uses.bytes_of_a_read.Goals as goal

pub returns-clause-asked : goal.returns-clause-asked
returns-clause-asked g c = search rules
