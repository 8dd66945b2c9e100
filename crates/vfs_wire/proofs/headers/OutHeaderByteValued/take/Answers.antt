use Rattle.std.proofs.Common.{rules}
use Rattle.vfs_wire.proofs.headers.OutHeaderByteValued.take.Goals as goal

pub returns-clause-read : goal.returns-clause-read
returns-clause-read c = search rules
