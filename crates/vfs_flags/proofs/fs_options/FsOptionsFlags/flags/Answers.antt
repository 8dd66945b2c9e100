use Rattle.std.proofs.Common.{rules}
use Rattle.vfs_flags.proofs.fs_options.FsOptionsFlags.flags.Goals as goal

pub returns : goal.returns
returns c = search rules
