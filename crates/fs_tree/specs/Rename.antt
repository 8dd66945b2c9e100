-- What RENAME does, in steps, each from the state that the one before it left: so the two directories may
-- be one.
use Rattle.std.specs.Prelude.{ℕ, zero, suc, ◌==◌, ◌&&◌, ◌||◌, nat_le, not, Bool, true, false, List, [], ◌∷◌, length, bit_and, Option, Some, None, is_some, is_none, option_map, if◌then◌else◌}
use Rattle.std.specs.Option.{option_map_or, option_or}
use Rattle.vfs_flags.specs.Numbers.{enoent, eexist, enotdir, eisdir, enospc, enotempty, einval}
use Rattle.vfs_files.specs.Calls.{Done, Plain}
use Rattle.vfs_files.specs.declared.entry.Context.{Context}
pub use Rattle.fs_nodes.specs.Renames.{is_served, same_node}
use Rattle.fs_nodes.specs.declared.children.Child.{Child}
use Rattle.fs_nodes.specs.declared.kind.Kind.TheVariants as kind
use Rattle.fs_nodes.specs.declared.node.Node.{Node}
use Rattle.fs_tree.specs.Naming.{is_directory_at, directory_refusal, is_improper, is_nameless, is_crowded, has_no_number, new_in}
use Rattle.fs_tree.specs.Outcome.{Outcome, Tried, done, first_of, unless, with_it}
use Rattle.fs_tree.specs.State.{State, node_at, change, lead, with_new, unnamed, node_of}

abbrev pub parent_of : Option Node → ℕ
parent_of node = option_map_or (λ node. node.parent) node 1

-- whether a directory is this node or lies below it, looked for that many steps up: a way that is longer
-- than there are nodes counts for one
abbrev pub is_below : State → (steps number directory : ℕ) → Bool
is_below s zero n directory = true
is_below s (suc k) n directory =
    directory == n || (not (directory == 1) && is_below s k n (parent_of (node_at s directory)))

-- whether a directory would come to lie in itself
abbrev pub is_own_child : State → Option Child → (directory : ℕ) → Bool
is_own_child s child directory = option_map_or
    (λ c. is_directory_at (node_at s c.node) && is_below s (length s.nodes) c.node directory) child false

-- a node lies in this directory
abbrev pub moved_into : State → (number directory : ℕ) → State
moved_into s n directory = change s n (λ node. record node { parent = directory; ctime = s.now })

-- a whiteout, made in this directory: a character device of number 0, with no permission bits. No lookup of it
-- is held
abbrev pub whiteout : State → Context → (directory : ℕ) → Node
whiteout s ctx directory = record (new_in s ctx (kind.Character 0) 0 directory []) { lookups = 0 }

-- why RENAME of a name that leads here to one that leads there is refused. A file can't take the place of a
-- directory, nor a directory that of a file or of a directory that holds names
abbrev pub rename_refusal :
    State → (od nd : ℕ) → (nn : List ℕ) → (flags : ℕ) → (moved target : Option Child) → Option ℕ
rename_refusal s od nd nn flags moved target =
    let it = node_of s moved in
    let old = node_of s (if flags == 2 || same_node moved target then None else target) in
    first_of ((not (is_served flags), einval)
    ∷ (is_none it || is_nameless (node_at s nd), enoent)
    ∷ (bit_and flags 1 == 1 && is_some target, eexist)
    ∷ (flags == 2 && is_none (node_of s target), enoent)
    ∷ (is_own_child s moved nd || (flags == 2 && is_own_child s target od), einval)
    ∷ (is_none target && is_improper nn, einval)
    ∷ (is_none target && is_crowded (node_at s nd), enospc)
    ∷ (is_directory_at old && not (is_directory_at it), eisdir)
    ∷ (is_directory_at it && is_some old && not (is_directory_at old), enotdir)
    ∷ (option_map_or (λ node. not (length node.children.links == 0)) old false, enotempty)
    ∷ (nat_le 4 flags && not (same_node moved target) && has_no_number s, enospc) ∷ [])

-- from a name of one directory to a name of another, which leads there
module _ (s : State) (ctx : Context) (od : ℕ) (on : List ℕ) (nd : ℕ) (nn : List ℕ) (flags : ℕ)
    (target : Option Child) where
  -- the state after it: the new name leads to the node, and the old one nowhere; or to the target, which then
  -- lies there; or to a whiteout, which is made before. A target that is not exchanged has one name less
  abbrev pub renamed : Child → State
  renamed child =
      let white = if nat_le 4 flags then Some (whiteout s ctx od) else None in
      let back = if flags == 2 then target
      else option_map (λ node. record { node = s.next; kind = node.kind }) white in
      let named = lead (option_map_or (with_new s) white s) nd nn (is_some target) (Some child) in
      let left = moved_into (lead named od on true back) child.node nd in
      option_map_or
      (λ old. if flags == 2 then moved_into left old.node od else unnamed left old.node) target left

  -- so it ends; where both names lead to one node, nothing is done. Memory is wanted for a new name or node
  abbrev pub renames : (moved : Option Child) → Outcome
  renames moved =
      unless (option_or (directory_refusal (node_at s od) on) (option_or (directory_refusal (node_at s nd) nn)
      (rename_refusal s od nd nn flags moved target)))
      (with_it moved (λ child. if same_node moved target then done s
      else Tried (is_none target || nat_le 4 flags) (Plain Done) (renamed child)))
