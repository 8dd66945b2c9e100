use Rattle.std.proofs.Common.{◌≤◌, length, arith}
use Rattle.test_uses.proofs.small_laws.a_writer_of_ten_bytes.Goals as goal

pub returns : goal.returns
returns c = λ w long sums.
    let within : 4 ≤ length w.left = omega (arith, long) in (
      c.writer_split.ensures.size w 4 within,
      c.writer_split.ensures.bytes w 4,
      c.writer_split.ensures.first_lengths w 4 sums within,
      c.writer_split.ensures.rest_lengths w 4 sums within,
    )
