use Rattle.std.proofs.Common.{rules}
use Rattle.vfs_server.specs.Handling.{Serves}
use Rattle.vfs_server.proofs.handlers.session.Session.setattr.Goals as goal

pub returns : goal.returns
unfolding Serves
returns c = search rules
