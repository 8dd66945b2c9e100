use Rattle.std.proofs.Common.{sym, ◌∙◌}
use Rattle.test_uses.proofs.small_files.child_of_a_directory.Goals as goal

pub returns-else-is_directory : goal.returns-else-is_directory
returns-else-is_directory g c =
    let law =
    g.met.T.ReadTree.children_agree c.args.tree.now c.args.parent c.args.name.now c.in-Some.node
    (sym c.child.ensures ∙ c.in-Some.is) in
    c.is_directory.ensures.1 law.0
