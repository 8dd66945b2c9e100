use Rattle.std.proofs.Common.{rules}
use Rattle.vfs_messages.proofs.reply.put_header.Goals as goal

pub returns : goal.returns
returns c = search rules
