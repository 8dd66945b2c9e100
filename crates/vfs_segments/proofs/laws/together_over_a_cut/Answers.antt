use Rattle.vfs_segments.proofs.Together.{together-cut}
use Rattle.vfs_segments.proofs.laws.together_over_a_cut.Goals as goal

pub returns : goal.returns
returns c = together-cut
