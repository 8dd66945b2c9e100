-- What flags of RENAME say, and whether its names lead to one node.
use Rattle.std.specs.Prelude.{ℕ, ◌==◌, ◌||◌, nat_le, Bool, false, Option, Some}
use Rattle.fs_nodes.specs.declared.children.Child.{Child}

-- flags: 1 is RENAME_NOREPLACE, 2 RENAME_EXCHANGE, and those from 4 on have RENAME_WHITEOUT, with which only
-- the first goes
abbrev pub is_served : (flags : ℕ) → Bool
is_served flags = nat_le flags 2 || flags == 4 || flags == 5

abbrev pub same_node : Option Child → Option Child → Bool
same_node (Some a) (Some b) = a.node == b.node
same_node _ _ = false
