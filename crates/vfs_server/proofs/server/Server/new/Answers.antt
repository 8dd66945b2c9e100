use Rattle.std.proofs.Common.{rules}
use Rattle.vfs_server.proofs.server.Server.new.Goals as goal

pub returns : goal.returns
returns g c = search rules
