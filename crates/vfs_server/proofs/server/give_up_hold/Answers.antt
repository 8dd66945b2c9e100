use Rattle.std.proofs.Common.{rules}
use Rattle.vfs_server.proofs.server.give_up_hold.Goals as goal

pub returns : goal.returns
returns c = search rules
