use Rattle.std.proofs.Common.{rules}
use Rattle.vfs_server.proofs.handlers.delivery.deliver_created.Goals as goal

pub returns-clause-gives_back : goal.returns-clause-gives_back
returns-clause-gives_back g c = search rules
