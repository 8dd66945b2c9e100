use Rattle.std.proofs.Common.{rules}
use Rattle.vfs_wire.proofs.numbers.U16ByteValued.put.Goals as goal

pub returns-clause-written : goal.returns-clause-written
returns-clause-written c = search rules
