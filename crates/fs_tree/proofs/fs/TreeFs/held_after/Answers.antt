use Rattle.std.proofs.Common.{ℕ, List, ◌∙◌, ap, subst}
use Rattle.std.specs.Ordering.{nat_cmp}
use Rattle.std.specs.List.Sorted.{IsStrictlySortedBy}
use Rattle.std.specs.Map.{keys_of}
use Rattle.fs_nodes.specs.declared.node.Node.{Node}
use Rattle.fs_tree.specs.Holding.{first_held}
use Rattle.fs_tree.specs.State.{State, following}
use Rattle.fs_tree.proofs.Releasing.{held_of_all, held_following}
use Rattle.fs_tree.proofs.fs.TreeFs.held_after.Goals as goal

pub returns-in-None : goal.returns-in-None
returns-in-None c =
    let nodes = ap (λ (s : State). s.nodes) c.self.view_is in
    record {
      held = c.first_held.ensures
          ∙ held_of_all c.args.number c.self.inside.nodes.entries c.range.result c.in-None.is
          (c.range.ensures.between tt)
          ∙ ap (λ (es : List (ℕ × Node)). first_held (following c.args.number es)) nodes;
      ordered = subst (λ (es : List (ℕ × Node)). IsStrictlySortedBy nat_cmp (keys_of es)) nodes
          c.range.ensures.ordered;
    }

pub returns-in-Some : goal.returns-in-Some
returns-in-Some c =
    let nodes = ap (λ (s : State). s.nodes) c.self.view_is in
    record {
      held = c.first_held-in-Some.ensures
          ∙ held_following c.args.number c.in-Some.number c.self.inside.nodes.entries
          c.range-in-Some.result c.in-Some.is (c.range-in-Some.ensures.between tt)
          ∙ ap (λ (es : List (ℕ × Node)). first_held (following c.args.number es)) nodes;
      ordered = subst (λ (es : List (ℕ × Node)). IsStrictlySortedBy nat_cmp (keys_of es)) nodes
          c.range-in-Some.ensures.ordered;
    }
