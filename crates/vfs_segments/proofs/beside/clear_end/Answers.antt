use Rattle.std.proofs.Common.{arith}
use Rattle.std.proofs.lemmas.Grind.{common_steps}
use Rattle.vfs_segments.proofs.Padding.{zeros_at_end}
use Rattle.vfs_segments.proofs.beside.clear_end.Goals as goal

pub returns-then-SIZE-ge8-clause-cleared : goal.returns-then-SIZE-ge8-clause-cleared
returns-then-SIZE-ge8-clause-cleared g c =
    zeros_at_end c.args.n c.args.out.now c.put_at.new.buf c.if-n-le8.true (omega (arith, c.SIZE.ensures)) c.put_at.ensures

pub returns-else-n-le8-clause-cleared : goal.returns-else-n-le8-clause-cleared
returns-else-n-le8-clause-cleared g c = grind (arith, common_steps)
