use Rattle.std.proofs.Common.{rules}
use Rattle.vfs_files.proofs.name.CStr.from_bytes_until_nul.Goals as goal

pub returns : goal.returns
returns c = search rules
