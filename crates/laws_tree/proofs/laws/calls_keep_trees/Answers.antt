use Rattle.laws_tree.proofs.Kept.{calls_keep_trees}
use Rattle.laws_tree.proofs.laws.calls_keep_trees.Goals as goal

pub returns : goal.returns
returns c = calls_keep_trees
