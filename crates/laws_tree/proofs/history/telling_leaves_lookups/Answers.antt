use Rattle.laws_tree.proofs.Telling.{telling}
use Rattle.laws_tree.proofs.history.telling_leaves_lookups.Goals as goal

pub returns : goal.returns
returns c = telling
