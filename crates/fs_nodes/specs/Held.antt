-- Which nodes a client holds.
use Rattle.std.specs.Prelude.{ℕ, nat_eq, ◌==◌, ◌&&◌, not, Bool, true, List, [], ◌∷◌, Option, Some, None, if◌then◌else◌}
use Rattle.std.specs.List.{list_any}
use Rattle.fs_nodes.specs.declared.node.Node.{Node}

-- whether lookups of a node may be held: its number is one of these, or they are not known
abbrev pub may_hold : Option (List ℕ) → (number : ℕ) → Bool
may_hold None n = true
may_hold (Some numbers) n = list_any (nat_eq n) numbers

-- whether no lookup of a node is held, and a name leads to it: it stays as it is
abbrev pub is_idle : Node → Bool
is_idle node = node.lookups == 0 && not (node.names == 0)

-- the first of these nodes that is not idle, and how many lookups of it are held
abbrev pub first_held : List (ℕ × Node) → Option (ℕ × ℕ)
first_held [] = None
first_held (e ∷ es) = if is_idle e.1 then first_held es else Some (e.0, e.1.lookups)
