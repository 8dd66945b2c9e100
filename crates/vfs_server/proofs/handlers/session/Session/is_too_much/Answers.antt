use Rattle.std.proofs.Common.{rules}
use Rattle.vfs_server.proofs.handlers.session.Session.is_too_much.Goals as goal

pub returns-else-read_in-self : goal.returns-else-read_in-self
returns-else-read_in-self c = search rules
