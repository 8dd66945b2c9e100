use Rattle.std.proofs.Common.{refl}
use Rattle.nizwarf_tree.specs.Served.{new_server}
use Rattle.nizwarf_tree.proofs.tree.laws.histories_are_kept.Goals as goal

pub returns : goal.returns
returns c = λ page_size max_buffer settings new moments.
    c.new_trees_are_kept.ensures _ _ _ _ _ _ (new_server page_size max_buffer settings) new moments refl
