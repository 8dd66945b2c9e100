use Rattle.std.specs.Prelude.{false}
use Rattle.test_uses.proofs.tree_laws.free_tree.Goals as goal

pub returns-in-Ok-clause-tree : goal.returns-in-Ok-clause-tree
returns-in-Ok-clause-tree c = rw c.in-Ok.ensures (c.new_ones_are_trees.ensures _ _ _ c.args.limits false c.args.now).0

pub returns-in-Ok-clause-lookups : goal.returns-in-Ok-clause-lookups
returns-in-Ok-clause-lookups c = rw c.in-Ok.ensures (c.new_ones_are_trees.ensures _ _ _ c.args.limits false c.args.now).1
