-- Which nodes a release has to look at.
use Rattle.std.specs.Prelude.{◌≡◌, ◌≤◌, ℕ, Bool, true, false, List, Option, Some, None}
use Rattle.std.specs.Ordering.{nat_cmp}
use Rattle.std.specs.Map.{lookup}
use Rattle.std.specs.BTreeMap.{is_at}
pub use Rattle.fs_nodes.specs.Held.{is_idle, first_held}
use Rattle.fs_nodes.specs.Held.{may_hold}
use Rattle.fs_nodes.specs.declared.node.Node.{Node}

-- whether a release leaves what is found of a number as it is
abbrev pub rests : Option Node → Bool
rests None = true
rests (Some node) = is_idle node

-- what holds of every file system: no node has the next number, or a greater one, and each that is not idle
-- is among those that may be held
pub record IsSound (next : ℕ) (held : Option (List ℕ)) (nodes : List (ℕ × Node)) : Type 0 where
  pub free : (n : ℕ) → next ≤ n → lookup (is_at (nat_cmp n)) nodes ≡ None
  pub noted : (n : ℕ) → may_hold held n ≡ false → rests (lookup (is_at (nat_cmp n)) nodes) ≡ true
