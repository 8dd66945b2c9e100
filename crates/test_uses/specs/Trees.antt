-- Trees to call, written out.
use Rattle.std.specs.Prelude.{ℕ, ◌^◌, ◌+◌, ◌-◌, Bool, true, false, List, [], ◌∷◌, codes, Some}
use Rattle.fs_nodes.specs.Contents.{Contents, no_contents}
use Rattle.fs_nodes.specs.Children.{Children, Link, no_children}
use Rattle.fs_nodes.specs.Node.{weight}
use Rattle.fs_nodes.specs.Xattrs.{Xattr}
use Rattle.fs_nodes.specs.declared.children.Child.{Child}
use Rattle.fs_nodes.specs.declared.kind.Kind.{Kind}
use Rattle.fs_nodes.specs.declared.kind.Kind.TheVariants as kind
use Rattle.fs_nodes.specs.declared.node.Node.{Node}
use Rattle.fs_nodes.specs.declared.node.Time.{Time}
use Rattle.fs_tree.specs.State.{State, lead, with_new}
use Rattle.fs_tree.specs.Tree.{first_state}
use Rattle.fs_tree.specs.declared.fs.Capacity.{Capacity}

abbrev pub second_7 : Time
second_7 = record { seconds = 7; nanoseconds = 0 }

-- at most a hundred nodes and two pages; a file has at most a thousand bytes
abbrev pub wide : Capacity
wide = record { nodes = 100; bytes = 8192; file = 1000 }

-- a file has at most six bytes
abbrev pub short : Capacity
short = record { nodes = 9; bytes = 8192; file = 6 }

-- at most a page and a byte
abbrev pub narrow : Capacity
narrow = record { nodes = 9; bytes = 4097; file = 9000 }

-- at most two nodes
abbrev pub pair : Capacity
pair = record { nodes = 2; bytes = 8192; file = 900 }

-- the root alone
abbrev pub single : Capacity
single = record { nodes = 1; bytes = 900; file = 900 }

-- a new one, within these limits, at second 7
abbrev pub small_tree : State
small_tree =
    first_state 0 0 0o755 (record { nodes = 100; bytes = 8192; file = 1000 }) false
    (record { seconds = 7; nanoseconds = 0 })

-- a node of user and group 0, in the root, as it was at second 7: with these names or bytes, and with so
-- many names and lookups of its own
abbrev pub node_in_root :
    Kind → (permissions : ℕ) → Children → Contents → (names lookups : ℕ) → Node
node_in_root kind permissions children contents names lookups = record {
  kind = kind;
  permissions = permissions;
  uid = 0;
  gid = 0;
  atime = second_7;
  mtime = second_7;
  ctime = second_7;
  btime = second_7;
  parent = 1;
  children = children;
  contents = contents;
  text = [];
  xattrs = [];
  names = names;
  is_linkable = false;
  lookups = lookups;
}

-- a file of one page, which has these bytes, of one name, and held by one lookup
abbrev pub file_of : (bytes : List ℕ) → Node
file_of bytes =
    node_in_root kind.File 0o644 no_children (record { bytes = bytes; held = 0 ∷ [] }) 1 1

-- a file that is empty
abbrev pub empty_file : Node
empty_file = node_in_root kind.File 0o644 no_children no_contents 1 1

-- a file of two bytes, in a hole
abbrev pub hollow_file : Node
hollow_file =
    node_in_root kind.File 0o644 no_children (record { bytes = 0 ∷ 0 ∷ []; held = [] }) 1 1

-- a directory that is empty, likewise
abbrev pub empty_directory : Node
empty_directory = node_in_root kind.Directory 0o755 no_children no_contents 1 1

-- a small tree in which this node was made under this name
abbrev pub with_one : (name : List ℕ) → Node → State
with_one name node =
    lead (with_new small_tree node) 1 name false (Some (record { node = 2; kind = node.kind }))

-- a name that leads to a node of this kind
abbrev pub link_to : (name : List ℕ) → (node : ℕ) → Kind → Link
link_to name node kind = record { name = name; child = record { node = node; kind = kind } }

-- the root alone, with one name, `f`, that leads to node 2, which is this one
abbrev pub tree_of : Capacity → Node → State
tree_of limits node =
    let last = 2 ^ 63 - 1 in
    let names : Children =
    record { links = (last, link_to (codes "f") 2 node.kind) ∷ []; next = last - 1 } in
    record {
      nodes = (1, node_in_root kind.Directory 0o755 names no_contents 1 0) ∷ (2, node) ∷ [];
      next = 3;
      used = weight node;
      inodes = 2;
      limits = limits;
      writeback = false;
      offered = 0;
      now = second_7;
    }

-- the same, whose client is to write later
abbrev pub written_later : State → State
written_later s = record s { writeback = true }

-- the same, whose client offered these options
abbrev pub of_client : (offered : ℕ) → State → State
of_client offered s = record s { offered = offered }

-- the same at second 9
abbrev pub later : State → State
later s = record s { now = record { seconds = 9; nanoseconds = 0 } }

-- a tree with a file `f` of second 7, which was last read at this second, at that one
abbrev pub read_tree : (atime now : ℕ) → State
read_tree atime now =
    record (tree_of wide (record (file_of (codes "hello")) {
      atime = record { seconds = atime; nanoseconds = 0 };
    })) { now = record { seconds = now; nanoseconds = 0 } }

-- a tree with a file `f` of these bytes
abbrev pub file_tree : Capacity → (bytes : List ℕ) → State
file_tree limits bytes = tree_of limits (file_of bytes)

-- a tree with a file `f` of no bytes and these extended attributes
abbrev pub attribute_tree : Capacity → List Xattr → State
attribute_tree limits xattrs = tree_of limits (record empty_file { xattrs = xattrs })

-- the attribute `user.a`, with this value
abbrev pub user_a : (value : List ℕ) → Xattr
user_a value = (codes "user.a", value)

-- and `user.b`
abbrev pub user_b : (value : List ℕ) → Xattr
user_b value = (codes "user.b", value)

-- and `trusted.a`, which only root is to see
abbrev pub trusted_a : (value : List ℕ) → Xattr
trusted_a value = (codes "trusted.a", value)

-- the attribute that has the capabilities of a program, with some value
abbrev pub capability : Xattr
capability = (codes "security.capability", codes "c")

-- a file with these permission bits, extended attributes and bytes, and a tree with it
abbrev pub program : (permissions : ℕ) → List Xattr → (bytes : List ℕ) → Node
program permissions xattrs bytes =
    record (file_of bytes) { permissions = permissions; xattrs = xattrs }

abbrev pub program_tree : (permissions : ℕ) → List Xattr → (bytes : List ℕ) → State
program_tree permissions xattrs bytes = tree_of wide (program permissions xattrs bytes)

-- a tree with an empty directory `f`, likewise
abbrev pub directory_tree : (permissions : ℕ) → List Xattr → State
directory_tree permissions xattrs =
    tree_of wide (record empty_directory { permissions = permissions; xattrs = xattrs })

-- a tree whose root has two names, `f` and `d`: this file, node 2, and this directory, node 3
abbrev pub tree_of_two : (f d : Child) → State
tree_of_two f d =
    let last = 2 ^ 63 - 1 in
    let names : Children =
    record {
      links =
          (last - 1, record { name = codes "d"; child = d })
          ∷ (last, record { name = codes "f"; child = f }) ∷ [];
      next = last - 2;
    } in
    record {
      nodes =
          (1, node_in_root kind.Directory 0o755 names no_contents 1 0)
          ∷ (2, empty_file) ∷ (3, empty_directory) ∷ [];
      next = 4;
      used = 0;
      inodes = 3;
      limits = wide;
      writeback = false;
      offered = 0;
      now = second_7;
    }

-- where the names of node 2 and of node 3 lead
abbrev pub to_file : Child
to_file = record { node = 2; kind = kind.File }

abbrev pub to_directory : Child
to_directory = record { node = 3; kind = kind.Directory }

-- a tree whose root has two names, `f` and `g`: this file, node 2, and a whiteout of this number
abbrev pub whitened_tree : (f g : Child) → (whiteout : ℕ) → State
whitened_tree f g whiteout =
    let last = 2 ^ 63 - 1 in
    let names : Children =
    record {
      links =
          (last - 1, record { name = codes "g"; child = g })
          ∷ (last, record { name = codes "f"; child = f }) ∷ [];
      next = last - 2;
    } in
    record {
      nodes =
          (1, node_in_root kind.Directory 0o755 names no_contents 1 0) ∷ (2, empty_file)
          ∷ (whiteout, node_in_root (kind.Character 0) 0 no_children no_contents 1 0) ∷ [];
      next = whiteout + 1;
      used = 0;
      inodes = 3;
      limits = wide;
      writeback = false;
      offered = 0;
      now = second_7;
    }

abbrev pub to_whiteout : (number : ℕ) → Child
to_whiteout number = record { node = number; kind = kind.Character 0 }

-- a file that no name leads to, which is held by one lookup; whether one may lead to it
abbrev pub nameless_file : (is_linkable : Bool) → Node
nameless_file is_linkable =
    record (node_in_root kind.File 0o644 no_children no_contents 0 1) { is_linkable = is_linkable }

-- the root alone, and such a file, node 2
abbrev pub nameless_tree : Capacity → (is_linkable : Bool) → State
nameless_tree limits is_linkable =
    with_new (first_state 0 0 0o755 limits false second_7) (nameless_file is_linkable)

-- a tree with a FIFO `f`
abbrev pub fifo_tree : State
fifo_tree = tree_of wide (record empty_file { kind = kind.Fifo })
