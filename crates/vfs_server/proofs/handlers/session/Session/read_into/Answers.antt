use Rattle.std.proofs.Common.{rules}
use Rattle.vfs_server.proofs.handlers.session.Session.read_into.Goals as goal

pub returns : goal.returns
returns c = search rules
