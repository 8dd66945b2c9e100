-- Why something is refused, by a node or a name alone.
use Rattle.std.specs.Prelude.{ℕ, nat_eq, nat_lt, ◌==◌, ◌||◌, not, Bool, false, List, [], ◌∷◌, length, codes, Option, Some, None, is_none, if◌then◌else◌}
use Rattle.std.specs.List.{list_any, starts_with}
use Rattle.std.specs.Option.{option_map_or}
use Rattle.std.specs.Str.{bytes_eq}
use Rattle.vfs_flags.specs.Numbers.{enoent, enotdir, eisdir, einval, enametoolong, eopnotsupp}
use Rattle.fs_nodes.specs.Children.{is_directory, is_file}
use Rattle.fs_nodes.specs.declared.node.Node.{Node}

-- there is no such command
abbrev pub enotty : ℕ
enotty = 25

-- the error of the first line that holds
abbrev pub first_of : List (Bool × ℕ) → Option ℕ
first_of [] = None
first_of (r ∷ rs) = if r.0 then Some r.1 else first_of rs

abbrev pub is_directory_at : Option Node → Bool
is_directory_at node = option_map_or (λ node. is_directory node.kind) node false

-- why no name is looked for in a node: it is not there, it is no directory, or the name is too long
abbrev pub directory_refusal : Option Node → (name : List ℕ) → Option ℕ
directory_refusal node name =
    first_of ((is_none node, enoent) ∷ (not (is_directory_at node), enotdir)
    ∷ (nat_lt 255 (length name), enametoolong) ∷ [])

-- whether a name can't be made: it is empty, `.`, `..`, or has a '/'. A kernel asks for none of these
abbrev pub is_improper : (name : List ℕ) → Bool
is_improper name =
    list_any (bytes_eq name) ([] ∷ codes "." ∷ codes ".." ∷ []) || list_any (λ b. b == 0x2f) name

-- why a node has no contents to be read, written or cut
abbrev pub contents_refusal : Node → Option ℕ
contents_refusal node = first_of ((is_directory node.kind, eisdir) ∷ (not (is_file node.kind), einval) ∷ [])

-- why there can be no attribute of this name: it is of no namespace that is kept, or says nothing within it.
-- Access control lists are of another: they would have to be obeyed
abbrev pub namespace_refusal : (name : List ℕ) → Option ℕ
namespace_refusal name =
    let namespaces = codes "user." ∷ codes "trusted." ∷ codes "security." ∷ [] in
    first_of ((not (list_any (starts_with nat_eq name) namespaces), eopnotsupp)
    ∷ (list_any (bytes_eq name) namespaces, einval) ∷ [])
