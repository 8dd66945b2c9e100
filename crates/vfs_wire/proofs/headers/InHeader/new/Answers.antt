use Rattle.std.proofs.Common.{rules}
use Rattle.vfs_wire.proofs.headers.InHeader.new.Goals as goal

pub returns : goal.returns
returns c = search rules
