use Rattle.std.proofs.Common.{rules}
use Rattle.vfs_flags.proofs.fs_options.FsOptionsBitAnd.bitand.Goals as goal

pub returns : goal.returns
returns c = search rules
