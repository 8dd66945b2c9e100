use Rattle.laws_tree.proofs.Counting.{runs_keep_trees}
use Rattle.laws_tree.proofs.laws.runs_keep_trees.Goals as goal

pub returns : goal.returns
returns c = runs_keep_trees c.calls_keep_trees.ensures c.readings_move_a_time.ensures
