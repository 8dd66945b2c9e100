use Rattle.std.proofs.Common.{arith}
use Rattle.test_uses.proofs.small_laws.a_reader_of_ten_bytes.Goals as goal

pub returns : goal.returns
returns c = λ u long.
    (c.reader_split.ensures.size u 4 (omega (arith, long)), c.reader_split.ensures.bytes u 4)
