use Rattle.std.proofs.Common.{rules}
use Rattle.vfs_messages.proofs.reply.hold_header.Goals as goal

pub returns-in-Ok-clause-room : goal.returns-in-Ok-clause-room
returns-in-Ok-clause-room c = search rules
