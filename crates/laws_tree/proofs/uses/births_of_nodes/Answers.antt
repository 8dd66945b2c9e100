use Rattle.std.proofs.Common.{◌≡◌, ◌∙◌, ℕ, Option, None, Some, IfSome, inl, inr, ap, sym, subst}
use Rattle.fs_nodes.specs.declared.node.Node.{Node}
use Rattle.fs_tree.specs.State.{State, node_at}
use Rattle.laws_tree.specs.Laws.{IsBorn}
use Rattle.laws_tree.proofs.uses.births_of_nodes.Goals as goal

some_is : (a b : Node) → Some a ≡ Some b → a ≡ b
some_is a b e = let f = e in cc

born_before : (old : State) (n : ℕ) (was node : Node) → IsBorn old n node → node_at old n ≡ Some was
    → node.btime ≡ was.btime
born_before old n was node (inl b) is = b.2 ∙ ap (λ (it : Node). it.btime) (some_is b.0 was (sym b.1 ∙ is))
born_before old n was node (inr b) is = absurd (let e : Some was ≡ None = sym is ∙ b.0 in cc)

born_now : (old : State) (n : ℕ) (node : Node) → IsBorn old n node → node_at old n ≡ None → node.btime ≡ old.now
born_now old n node (inl b) is = absurd (let e : Some b.0 ≡ None = sym b.1 ∙ is in cc)
born_now old n node (inr b) is = b.1

pub returns-clause-kept : goal.returns-clause-kept
returns-clause-kept c old new call handed n was node sound allowed before after =
    born_before old n was node
    (subst (λ (o : Option Node). IfSome o (IsBorn old n)) after (c.calls_keep_births.ensures old new call handed sound allowed n)) before

pub returns-clause-born : goal.returns-clause-born
returns-clause-born c old new call handed n node sound allowed before after =
    born_now old n node
    (subst (λ (o : Option Node). IfSome o (IsBorn old n)) after (c.calls_keep_births.ensures old new call handed sound allowed n)) before
