-- The state of the file system: its nodes by number.
use Rattle.std.specs.Prelude.{ℕ, ◌+◌, ◌-◌, ◌==◌, ◌&&◌, nat_lt, min, Bool, List, Option, Some, None, option_and_then, if◌then◌else◌}
use Rattle.std.specs.Option.{option_map_or}
use Rattle.std.specs.List.{filter}
use Rattle.std.specs.Ordering.{nat_cmp}
use Rattle.std.specs.Map.{lookup, set_value, remove_entry}
use Rattle.std.specs.BTreeMap.{insert_entry, is_at}
use Rattle.fs_nodes.specs.Children.{child_named, leading}
use Rattle.fs_nodes.specs.Node.{weight}
use Rattle.fs_nodes.specs.declared.children.Child.{Child}
use Rattle.fs_nodes.specs.declared.node.Node.{Node}
use Rattle.fs_nodes.specs.declared.node.Time.{Time}
use Rattle.fs_tree.specs.declared.fs.Capacity.{Capacity}

-- the nodes in order of their numbers, the number of the next one, how many bytes the nodes take, how many
-- inodes they are counted as (each node as one, and each further name that leads to it as one more), how
-- much there may be at most, whether the client is to keep what is written and write it later, the options
-- that it offered in its last INIT, and the time
pub record State : Type 0 where
  pub nodes : List (ℕ × Node)
  pub next : ℕ
  pub used : ℕ
  pub inodes : ℕ
  pub limits : Capacity
  pub writeback : Bool
  pub offered : ℕ
  pub now : Time

-- the node of this number
abbrev pub node_at : State → (number : ℕ) → Option Node
node_at s n = lookup (is_at (nat_cmp n)) s.nodes

-- the nodes of greater numbers; all of them where there is none to begin after
abbrev pub following : (number : Option ℕ) → List (ℕ × Node) → List (ℕ × Node)
following None nodes = nodes
following (Some n) nodes = filter (λ e. nat_lt n e.0) nodes

-- how many more bytes the nodes may take
abbrev pub room_of : State → ℕ
room_of s = s.limits.bytes - s.used

-- the node of this number is this one
abbrev pub with_node : State → (number : ℕ) → Node → State
with_node s n node = record s { nodes = set_value (is_at (nat_cmp n)) s.nodes node }

-- the node of this number is this one, which may take more bytes or fewer
abbrev pub with_resized : State → (number : ℕ) → (old new : Node) → State
with_resized s n old new =
    record (with_node s n new) { used = s.used + (weight new - weight old) - (weight old - weight new) }

-- one node more, under the next number
abbrev pub with_new : State → Node → State
with_new s node = record s {
  nodes = insert_entry nat_cmp s.nodes s.next node;
  next = s.next + 1;
  used = s.used + weight node;
  inodes = s.inodes + 1;
}

-- without the node of this number
abbrev pub without_node : State → (number : ℕ) → Node → State
without_node s n node = record s {
  nodes = remove_entry (is_at (nat_cmp n)) s.nodes;
  used = s.used - weight node;
  inodes = s.inodes - 1;
}

-- a node that no name leads to and of which no lookup is held is gone
abbrev pub settled : State → (number : ℕ) → Node → State
settled s n node =
    if node.names == 0 && node.lookups == 0 then without_node s n node else with_node s n node

-- a node is changed, where there is one
abbrev pub change : State → (number : ℕ) → (Node → Node) → State
change s n f = option_map_or (λ node. with_node s n (f node)) (node_at s n) s

-- one name less leads to a node; where it had a further one, that is counted no more
abbrev pub unnamed : State → (number : ℕ) → State
unnamed s n =
    option_map_or (λ node. settled (record s { inodes = s.inodes - min (node.names - 1) 1 }) n
    (record node { names = node.names - 1; ctime = s.now })) (node_at s n) s

-- a name of a directory, which is there or not, leads to a node from now on, or nowhere
abbrev pub lead : State → (directory : ℕ) → (name : List ℕ) → (is_there : Bool) → Option Child → State
lead s d name is_there child = change s d (λ node.
    record node { children = leading name is_there child node.children; mtime = s.now; ctime = s.now })

-- where a name of a node leads
abbrev pub child_at : State → (parent : ℕ) → (name : List ℕ) → Option Child
child_at s parent name = option_and_then (λ node. child_named node.children name) (node_at s parent)

abbrev pub node_of : State → Option Child → Option Node
node_of s child = option_and_then (λ c. node_at s c.node) child
