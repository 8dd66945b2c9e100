use Rattle.std.proofs.Common.{rules}
use Rattle.vfs_server.proofs.handlers.delivery.give_back_unfit.Goals as goal

pub returns-then-is_counted : goal.returns-then-is_counted
returns-then-is_counted g c = search rules
