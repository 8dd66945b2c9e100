use Rattle.std.proofs.Common.{arith}
use Rattle.vfs_segments.proofs.Flat.{segments}
use Rattle.vfs_segments.proofs.segments.sum_of.Goals as goal

pub returns-in_default : goal.returns-in_default
returns-in_default g c = grind (arith, segments)
