use Rattle.std.proofs.Common.{rules}
use Rattle.vfs_messages.proofs.reply.reply_statistics.Goals as goal

pub returns-in-Ok-clause-replied : goal.returns-in-Ok-clause-replied
returns-in-Ok-clause-replied c = search rules
