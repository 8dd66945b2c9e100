use Rattle.std.proofs.Common.{rules}
use Rattle.vfs_messages.proofs.request.take_tail.Goals as goal

pub returns-in-Some-clause-cut : goal.returns-in-Some-clause-cut
returns-in-Some-clause-cut c = search rules
