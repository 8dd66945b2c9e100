use Rattle.std.proofs.Common.{rules}
use Rattle.vfs_flags.proofs.ids.GuestUidFromU32.from.Goals as goal

pub returns : goal.returns
returns c = search rules
