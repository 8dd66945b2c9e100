use Rattle.vfs_segments.proofs.Together.{together-before, together-from}
use Rattle.vfs_segments.proofs.laws.together_after_a_place.Goals as goal

pub returns-clause-from : goal.returns-clause-from
returns-clause-from c = λ lengths k at n. together-from at n k lengths

pub returns-clause-before : goal.returns-clause-before
returns-clause-before c = λ lengths k at n fits. together-before at n k lengths fits
