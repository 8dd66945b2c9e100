use Rattle.std.proofs.Common.{rules}
use Rattle.vfs_files.proofs.transfer.RefMutZeroCopyWriter.read_from_file_at.Goals as goal

pub returns : goal.returns
returns g c = search rules
