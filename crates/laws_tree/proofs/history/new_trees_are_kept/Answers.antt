use Rattle.laws_tree.proofs.Histories.{new_ones_are_kept}
use Rattle.laws_tree.proofs.history.new_trees_are_kept.Goals as goal

pub returns : goal.returns
returns c =
    new_ones_are_kept c.history_keeps_books.ensures c.histories_keep_trees.ensures
    c.telling_leaves_lookups.ensures c.new_ones_are_trees.ensures
