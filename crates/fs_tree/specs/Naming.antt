-- What names of directories ask, and what is made under them.
use Rattle.std.specs.Prelude.{ℕ, ◌==◌, ◌&&◌, ◌||◌, ◌-◌, ◌^◌, nat_le, nat_lt, not, Bool, true, false, List, [], ◌∷◌, codes, bit_and, bit_or, Option, Some, None, is_some, unwrap_or, option_and_then, if◌then◌else◌}
use Rattle.std.specs.Option.{option_map_or, option_or}
use Rattle.std.specs.Str.{bytes_eq}
use Rattle.vfs_flags.specs.Numbers.{enoent, eexist, einval, enospc}
use Rattle.vfs_files.specs.declared.entry.Context.{Context}
use Rattle.fs_nodes.specs.Children.{is_directory}
use Rattle.fs_nodes.specs.Node.{new_node}
pub use Rattle.fs_nodes.specs.Refusals.{is_directory_at, directory_refusal, is_improper}
use Rattle.fs_nodes.specs.declared.kind.Kind.{Kind}
use Rattle.fs_nodes.specs.declared.kind.Kind.TheVariants as kind
use Rattle.fs_nodes.specs.declared.node.Node.{Node}
use Rattle.fs_tree.specs.Outcome.{first_of}
use Rattle.fs_tree.specs.State.{State, node_at, child_at}

-- whether no name leads to a node any more: a directory that was taken out
abbrev pub is_nameless : Option Node → Bool
is_nameless node = option_map_or (λ node. node.names == 0) node true

-- whether a directory has no place for a further name: 1 and 2 are those of `.` and `..`
abbrev pub is_crowded : Option Node → Bool
is_crowded node = option_map_or (λ node. not (nat_lt 2 node.children.next)) node false

-- why no new name can be made in a directory
abbrev pub name_refusal : State → (parent : ℕ) → (name : List ℕ) → Option ℕ
name_refusal s parent name =
    option_or (directory_refusal (node_at s parent) name)
    (first_of ((is_nameless (node_at s parent), enoent) ∷ (is_improper name, einval)
    ∷ (is_some (child_at s parent name), eexist) ∷ []))

-- whether there is no room for one node more
abbrev pub has_no_number : State → Bool
has_no_number s = nat_le s.limits.nodes s.inodes || s.next == 2 ^ 64 - 1

-- a new node in a directory, which hands down its group where it has set-group-ID, and that to a directory too
abbrev pub new_in : State → Context → Kind → (permissions parent : ℕ) → (text : List ℕ) → Node
new_in s ctx kind permissions parent text =
    let group = option_and_then
    (λ node. if bit_and node.permissions 0o2000 == 0o2000 then Some node.gid else None) (node_at s parent) in
    new_node s.now ctx.uid (unwrap_or group ctx.gid) kind
    (if is_some group && is_directory kind then bit_or permissions 0o2000 else permissions) parent text

-- ---- files without a name

-- whether a CREATE asks for a file without a name: Linux's TMPFILE gives it this one, which none can have
abbrev pub asks_nameless : (name : List ℕ) → Bool
asks_nameless name = bytes_eq name (codes "/")

-- a new file that no name leads to. One may, unless the file was made for its opener alone (O_EXCL, 0o200)
abbrev pub new_nameless : State → Context → (permissions parent flags : ℕ) → Node
new_nameless s ctx permissions parent flags =
    record (new_in s ctx kind.File permissions parent []) {
      names = 0;
      is_linkable = bit_and flags 0o200 == 0;
    }

-- why no file without a name can be made in a directory: also in one that was taken out it can
abbrev pub nameless_refusal : State → (parent : ℕ) → (name : List ℕ) → Option ℕ
nameless_refusal s parent name =
    option_or (directory_refusal (node_at s parent) name) (first_of ((has_no_number s, enospc) ∷ []))
