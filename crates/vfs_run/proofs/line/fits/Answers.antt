use Rattle.std.proofs.Common.{arith}
use Rattle.std.proofs.lemmas.Grind.{common_steps}
use Rattle.vfs_run.proofs.line.fits.Goals as goal

pub returns-then-room-left : goal.returns-then-room-left
returns-then-room-left c = grind (arith, common_steps)
