use Rattle.std.proofs.Common.{arith}
use Rattle.test_uses.proofs.trait_values.positions_that_are_moved.Goals as goal

pub returns : goal.returns
returns c = λ count room offset old part middle new h. omega (arith, h.1)
