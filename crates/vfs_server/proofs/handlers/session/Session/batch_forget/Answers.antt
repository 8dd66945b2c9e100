use Rattle.std.proofs.Common.{rules}
use Rattle.vfs_server.specs.Handling.{Serves}
use Rattle.vfs_server.proofs.handlers.session.Session.batch_forget.Goals as goal

pub returns-in_err-pairs : goal.returns-in_err-pairs
unfolding Serves
returns-in_err-pairs c = search rules
