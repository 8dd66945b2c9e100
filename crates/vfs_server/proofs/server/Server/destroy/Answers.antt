use Rattle.std.proofs.Common.{rules}
use Rattle.vfs_server.proofs.server.Server.destroy.Goals as goal

pub returns-clause-called : goal.returns-clause-called
returns-clause-called g c = search rules
