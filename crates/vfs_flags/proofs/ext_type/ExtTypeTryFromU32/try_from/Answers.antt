use Rattle.std.proofs.Common.{rules}
use Rattle.vfs_flags.proofs.ext_type.ExtTypeTryFromU32.try_from.Goals as goal

pub returns-in-32 : goal.returns-in-32
returns-in-32 c = search rules
