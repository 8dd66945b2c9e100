use Rattle.laws_tree.proofs.Histories.{keep_trees}
use Rattle.laws_tree.proofs.history.histories_keep_trees.Goals as goal

pub returns : goal.returns
returns c =
    keep_trees c.calls_keep_trees.ensures c.readings_move_a_time.ensures
    c.history_has_turns.ensures.turns c.turns_keep_books.ensures
