use Rattle.std.proofs.Common.{rules}
use Rattle.vfs_messages.proofs.options.init_out.Goals as goal

pub returns : goal.returns
returns c = search rules
