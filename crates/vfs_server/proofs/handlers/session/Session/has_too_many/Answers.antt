use Rattle.std.proofs.Common.{rules}
use Rattle.vfs_server.proofs.handlers.session.Session.has_too_many.Goals as goal

pub returns : goal.returns
returns c = search rules
