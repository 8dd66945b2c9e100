use Rattle.std.proofs.Common.{arith}
use Rattle.std.proofs.lemmas.Grind.{common_steps}
use Rattle.vfs_segments.specs.Segments.{with_bytes_at}
use Rattle.vfs_segments.proofs.gather.put_piece.Goals as goal

pub returns : goal.returns
unfolding with_bytes_at
returns c = grind (arith, common_steps)
