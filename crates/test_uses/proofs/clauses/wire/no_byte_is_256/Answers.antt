use Rattle.std.proofs.Common.{arith}
use Rattle.test_uses.proofs.clauses.wire.no_byte_is_256.Goals as goal

pub returns : goal.returns
returns c = λ bytes i are is. omega (arith, are i, is)
