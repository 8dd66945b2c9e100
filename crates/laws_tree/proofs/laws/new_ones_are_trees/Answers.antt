use Rattle.laws_tree.proofs.Beginning.{new_ones_are_trees}
use Rattle.laws_tree.proofs.laws.new_ones_are_trees.Goals as goal

pub returns : goal.returns
returns c = new_ones_are_trees
