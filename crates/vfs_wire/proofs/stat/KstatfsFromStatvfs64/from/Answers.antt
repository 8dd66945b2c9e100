use Rattle.std.proofs.Common.{rules}
use Rattle.vfs_wire.proofs.stat.KstatfsFromStatvfs64.from.Goals as goal

pub returns : goal.returns
returns c = search rules
