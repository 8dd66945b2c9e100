-- Whether a directory lies below another, step by step.
use Rattle.std.proofs.Common.{◌≡◌, ℕ, suc, true, false}
use Rattle.std.proofs.lemmas.Bool.{eq-eqb, ne_eqb}
use Rattle.fs_tree.specs.Rename.{is_below, parent_of}
use Rattle.fs_tree.specs.State.{State, node_at}

-- it is the other itself
pub below_itself : (s : State) (steps n at : ℕ) → at ≡ n → is_below s (suc steps) n at ≡ true
below_itself s steps n at is = rw (eq-eqb at n is)

-- it is the root, and not the other
pub below_root : (s : State) (steps n at : ℕ) → (at ≡ n → ⊥) → at ≡ 1
    → is_below s (suc steps) n at ≡ false
below_root s steps n at other root = rw (ne_eqb at n other, eq-eqb at 1 root)

-- it is neither: the directory above decides
pub below_next : (s : State) (steps n at : ℕ) → (at ≡ n → ⊥) → (at ≡ 1 → ⊥)
    → is_below s (suc steps) n at ≡ is_below s steps n (parent_of (node_at s at))
below_next s steps n at other root = rw (ne_eqb at n other, ne_eqb at 1 root)
