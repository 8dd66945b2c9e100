use Rattle.std.proofs.Common.{rules}
use Rattle.vfs_messages.proofs.reply.outcome_of.Goals as goal

pub returns-else-len-room : goal.returns-else-len-room
returns-else-len-room c = search rules
