use Rattle.std.proofs.Common.{rules}
use Rattle.vfs_server.proofs.handlers.session.Session.init_version.Goals as goal

pub returns : goal.returns
returns c = search rules
