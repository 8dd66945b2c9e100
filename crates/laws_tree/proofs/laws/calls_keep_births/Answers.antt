use Rattle.laws_tree.proofs.Births.{calls_keep_births}
use Rattle.laws_tree.proofs.laws.calls_keep_births.Goals as goal

pub returns : goal.returns
returns c = calls_keep_births
