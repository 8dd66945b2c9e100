-- Changes of a tree, by the node that each finds.
use Rattle.std.specs.Prelude.{ℕ, ◌-◌, nat_le, min, Bool, true, false, List, [], map, Option, Some, None, is_some, option_map, option_and_then, if◌then◌else◌}
use Rattle.std.specs.Option.{option_map_or}
use Rattle.vfs_files.specs.declared.entry.Context.{Context}
use Rattle.fs_nodes.specs.Children.{child_named}
use Rattle.fs_nodes.specs.Node.{new_node}
use Rattle.fs_nodes.specs.declared.children.Child.{Child}
use Rattle.fs_nodes.specs.declared.kind.Kind.TheVariants as kind
use Rattle.fs_nodes.specs.declared.node.Node.{Node}
use Rattle.fs_nodes.specs.declared.node.Time.{Time}
use Rattle.fs_tree.specs.Rename.{moved_into, whiteout}
use Rattle.fs_tree.specs.State.{State, lead, settled, unnamed, with_new}

-- one name less leads to this node
abbrev pub unnamed_at : State → (number : ℕ) → Option Node → State
unnamed_at s n o =
    option_map_or
    (λ (node : Node). settled (record s { inodes = s.inodes - min (node.names - 1) 1 }) n
    (record node { names = node.names - 1; ctime = s.now })) o s

-- lookups of it are taken back
abbrev pub forgotten_at : State → (number count : ℕ) → Option Node → State
forgotten_at s n count o =
    option_map_or (λ (node : Node). settled s n (record node { lookups = node.lookups - count })) o s

-- every lookup that is held of these nodes
abbrev pub held_of : List (ℕ × Node) → List (ℕ × ℕ)
held_of nodes = map (λ e. (e.0, e.1.lookups)) nodes

-- a node is there under the next number, and a name that leads to it
abbrev pub made : State → (parent : ℕ) → (name : List ℕ) → Node → State
made s parent name node =
    lead (with_new s node) parent name false (Some (record { node = s.next; kind = node.kind }))

-- a file that no name leads to
abbrev pub nameless : (now : Time) → (uid gid permissions parent : ℕ) → (is_linkable : Bool) → Node
nameless now uid gid permissions parent is_linkable =
    record (new_node now uid gid kind.File permissions parent []) { names = 0; is_linkable = is_linkable }

-- where a name of this node leads
abbrev pub child_of : Option Node → (name : List ℕ) → Option Child
child_of o name = option_and_then (λ (node : Node). child_named node.children name) o

-- ---- RENAME, step by step

-- the whiteout that is made first, if there is one
abbrev pub white_of : State → Context → (od flags : ℕ) → Option Node
white_of s ctx od flags = if nat_le 4 flags then Some (whiteout s ctx od) else None

abbrev pub begun : State → (white : Option Node) → State
begun s white = option_map_or (with_new s) white s

-- where the old name leads then
abbrev pub back_of : State → (exchanges : Bool) → (white : Option Node) → (target : Option Child) → Option Child
back_of s exchanges white target =
    if exchanges then target
    else option_map (λ (node : Node). record { node = s.next; kind = node.kind }) white

-- the names lead there, and the node lies where the new one does
abbrev pub laid :
    State → (od : ℕ) → (on : List ℕ) → (nd : ℕ) → (nn : List ℕ) → (back target : Option Child) → Child
    → State
laid s od on nd nn back target child =
    moved_into (lead (lead s nd nn (is_some target) (Some child)) od on true back) child.node nd

-- and what the new name led to lies in the other directory, or has one name less
abbrev pub left_with : State → (exchanges : Bool) → (od : ℕ) → (target : Option Child) → State
left_with s exchanges od target =
    option_map_or
    (λ (old : Child). if exchanges then moved_into s old.node od else unnamed s old.node) target s
