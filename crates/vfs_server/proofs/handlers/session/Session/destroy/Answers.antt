use Rattle.std.proofs.Common.{rules}
use Rattle.vfs_server.proofs.handlers.session.Session.destroy.Goals as goal

pub returns-clause-no_options : goal.returns-clause-no_options
returns-clause-no_options c = search rules
