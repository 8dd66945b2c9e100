use Rattle.std.proofs.Common.{rules}
use Rattle.vfs_messages.proofs.request.has_long_setxattr.Goals as goal

pub returns : goal.returns
returns c = search rules
