use Rattle.std.proofs.Common.{◌≡◌, ◌<◌, ℕ, true, Option, IfSome, subst}
use Rattle.fs_nodes.specs.Children.{is_directory}
use Rattle.fs_nodes.specs.declared.node.Node.{Node}
use Rattle.laws_tree.specs.Laws.{above}
use Rattle.laws_tree.proofs.uses.a_directory_leads_up.Goals as goal

pub returns : goal.returns
returns c = λ s n node tree is directory has.
    let up = subst
    (λ (o : Option Node). IfSome o (λ it. is_directory it.kind ≡ true → 0 < it.names → (k : ℕ) × (above s k n ≡ 1))) is
    (tree.rooted n) in
    let way = up directory has in
    (way.0, way.1)
