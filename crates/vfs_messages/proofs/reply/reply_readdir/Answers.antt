use Rattle.std.proofs.Common.{rules}
use Rattle.vfs_messages.proofs.reply.reply_readdir.Goals as goal

pub returns-clause-outcome : goal.returns-clause-outcome
returns-clause-outcome c = search rules
