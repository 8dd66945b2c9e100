use Rattle.std.proofs.Common.{ℕ, Bool, true, false, cond, List, [], ◌∷◌, Some, IfSome, subst}
use Rattle.std.specs.BTreeMap.{is_at}
use Rattle.std.specs.Ordering.{nat_cmp}
use Rattle.std.specs.Map.{lookup}
use Rattle.fs_nodes.specs.declared.node.Node.{Node}
use Rattle.fs_tree.specs.declared.fs.Capacity.{Capacity}
use Rattle.laws_tree.specs.Laws.{AreShort, IsShort}
use Rattle.laws_tree.proofs.uses.files_stay_short.Goals as goal

short_at : (most : ℕ) (test : ℕ → Bool) (nodes : List (ℕ × Node)) → AreShort most nodes
    → IfSome (lookup test nodes) (IsShort most)
short_at most test [] short = tt
short_at most test (e ∷ es) short =
    elim (test e.0) as (λ b. IfSome (cond b (Some e.1) (lookup test es)) (IsShort most)) [
      | true ↦ short.0
      | false ↦ short_at most test es short.1
    ]

pub returns : goal.returns
returns c old new call answer tree allowed n =
    let kept = c.calls_keep_trees.ensures old new call answer tree allowed in
    short_at old.limits.file (is_at (nat_cmp n)) new.nodes
    (subst (λ (limits : Capacity). AreShort limits.file new.nodes) kept.1 kept.0.within.files)
