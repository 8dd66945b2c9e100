use Rattle.vfs_segments.proofs.Together.{together-in}
use Rattle.vfs_segments.proofs.laws.together_in_a_segment.Goals as goal

pub returns : goal.returns
returns c = λ before after size at n fits. together-in before size after at n fits
