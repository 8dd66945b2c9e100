use Rattle.std.proofs.Common.{arith}
use Rattle.std.proofs.lemmas.Grind.{common_steps}
use Rattle.vfs_segments.proofs.cut.totals_past.Goals as goal

pub loop-total-preserved : goal.loop-total-preserved
loop-total-preserved c = grind (arith, common_steps)

pub returns : goal.returns
returns c = grind (arith, common_steps)
