use Rattle.std.proofs.Common.{rules}
use Rattle.vfs_messages.proofs.request.read_tail.Goals as goal

pub take_tail-requires : goal.take_tail-requires
take_tail-requires c = search rules
