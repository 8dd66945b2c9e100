-- What holds where a call is not refused.
use Rattle.std.proofs.Common.{◌≡◌, ◌^◌, ◌-◌, ◌==◌, ◌&&◌, ◌||◌, nat_lt, nat_le, ℕ, Bool, true, false, cond, not, List, [], ◌∷◌, length, Option, Some, None, is_some, is_none, bit_and, if◌then◌else◌, refl, sym, ap, ◌∙◌, arith}
use Rattle.std.specs.List.{AllByRecursion}
use Rattle.std.proofs.lemmas.Bool.{not-false, false≢true, eqb-true, eqb-false, or_parts, or_from}
use Rattle.std.proofs.lemmas.Option.{none-some}
use Rattle.vfs_flags.specs.Numbers.{eperm, enoent, eexist, enotdir, eisdir, enospc, enotempty, einval, eoverflow, enametoolong, emlink}
use Rattle.fs_tree.specs.Children.{is_directory, child_named}
use Rattle.fs_tree.specs.Outcome.{first_of}
use Rattle.fs_tree.specs.Rename.{is_own_child, is_served, same_node, rename_refusal}
use Rattle.fs_tree.specs.State.{State, node_at, room_of, child_at, node_of}
use Rattle.fs_tree.specs.Tree.{make_refusal, link_refusal}
use Rattle.fs_nodes.specs.declared.children.Child.{Child}
use Rattle.fs_nodes.specs.declared.node.Node.{Node}
use Rattle.std.specs.Option.{option_map_or, option_or}
use Rattle.fs_tree.specs.Naming.{is_improper, is_directory_at, directory_refusal, is_nameless, is_crowded, name_refusal, has_no_number}
use Rattle.laws_tree.proofs.Changes.{child_of}

pub or_none : (a b : Option ℕ) → option_or a b ≡ None → (a ≡ None) × (b ≡ None)
or_none (Some error) b is = absurd (none-some error (sym is))
or_none None b is = (refl, is)

pub all_false : (rs : List (Bool × ℕ)) → first_of rs ≡ None → AllByRecursion (λ r. r.0 ≡ false) rs
all_false [] is = tt
all_false (r ∷ rs) is = by r.0 refl is (all_false rs)
  where
    by : (t : Bool) → r.0 ≡ t → cond t (Some r.1) (first_of rs) ≡ None
        → (first_of rs ≡ None → AllByRecursion (λ r. r.0 ≡ false) rs)
        → AllByRecursion (λ r. r.0 ≡ false) (r ∷ rs)
    by true same e later = absurd (none-some r.1 (sym e))
    by false same e later = (same, later e)

none_there : {X : Type 0} (o : Option X) → is_some o ≡ false → o ≡ None
none_there None is = refl
none_there (Some x) is = absurd (false≢true (sym is))

pub none_in : {X : Type 0} (xs : List X) → length xs ≡ 0 → xs ≡ []
none_in [] is = refl
none_in (x ∷ xs) is = absurd (omega (arith, is))

-- a directory is there
pub directory_there : (o : Option Node) (name : List ℕ) → directory_refusal o name ≡ None
    → (node : Node) × (o ≡ Some node) × (is_directory node.kind ≡ true)
directory_there None name free = absurd (none-some enoent (sym free))
directory_there (Some node) name free =
    let parts = all_false ((is_none (Some node), enoent) ∷ (not (is_directory node.kind), enotdir)
    ∷ (nat_lt 255 (length name), enametoolong) ∷ []) free in
    (node, refl, not-false (is_directory node.kind) parts.1.0)

pub has_names : (o : Option Node) (node : Node) → o ≡ Some node → is_nameless o ≡ false
    → node.names ≡ 0 → ⊥
has_names o node is named = eqb-false node.names 0 (sym (ap is_nameless is) ∙ named)

-- a directory in which there is a place for this name
pub record Takes (s : State) (parent : ℕ) (name : List ℕ) : Type 0 where
  pub above : Node
  pub is : node_at s parent ≡ Some above
  pub dir : is_directory above.kind ≡ true
  pub named : above.names ≡ 0 → ⊥
  pub free : child_named above.children name ≡ None

takes : (s : State) (parent : ℕ) (name : List ℕ)
    → directory_refusal (node_at s parent) name ≡ None → is_nameless (node_at s parent) ≡ false
    → child_at s parent name ≡ None → Takes s parent name
takes s parent name there named free =
    let it = directory_there (node_at s parent) name there in
    record {
      above = it.0;
      is = it.1;
      dir = it.2;
      named = has_names (node_at s parent) it.0 it.1 named;
      free = sym (ap (λ o. child_of o name) it.1) ∙ free;
    }

-- where a new name can be made
name_takes : (s : State) (parent : ℕ) (name : List ℕ) → name_refusal s parent name ≡ None
    → Takes s parent name
name_takes s parent name free =
    let rs : List (Bool × ℕ) = (is_nameless (node_at s parent), enoent) ∷ (is_improper name, einval)
    ∷ (is_some (child_at s parent name), eexist) ∷ [] in
    let parts = or_none (directory_refusal (node_at s parent) name) (first_of rs) free in
    let each = all_false rs parts.1 in
    takes s parent name parts.0 each.0 (none_there (child_at s parent name) each.1.1.0)

pub make_takes : (s : State) (parent : ℕ) (name : List ℕ) (size : ℕ)
    → make_refusal s parent name size ≡ None → Takes s parent name
make_takes s parent name size free =
    name_takes s parent name
    (or_none (name_refusal s parent name)
    (first_of ((has_no_number s || is_crowded (node_at s parent) || nat_lt (room_of s) size, enospc) ∷ [])) free).0

pub link_takes : (s : State) (node : Node) (parent : ℕ) (name : List ℕ)
    → link_refusal s parent name node ≡ None
    → Takes s parent name × (is_directory node.kind ≡ false)
link_takes s node parent name free =
    let rs : List (Bool × ℕ) = (is_directory node.kind, eperm)
    ∷ (node.names == 0 && not node.is_linkable, enoent)
    ∷ (nat_le 65000 node.names, emlink)
    ∷ (node.lookups == 2 ^ 64 - 1, eoverflow)
    ∷ ((not (node.names == 0) && nat_le s.limits.nodes s.inodes) || is_crowded (node_at s parent), enospc)
    ∷ [] in
    let parts = or_none (name_refusal s parent name) (first_of rs) free in
    (name_takes s parent name parts.0, (all_false rs parts.1).0)

-- ---- RENAME

-- whether a node holds names
abbrev Holds : Option Node → Bool
Holds o = option_map_or (λ (node : Node). not (length node.children.links == 0)) o false

-- what is known where a name that leads to a node can give it to another, which leads elsewhere
pub record Renames
    (s : State) (od : ℕ) (on : List ℕ) (nd : ℕ) (nn : List ℕ) (flags : ℕ) (child : Child)
    : Type 0 where
  pub from : directory_refusal (node_at s od) on ≡ None
  pub into : directory_refusal (node_at s nd) nn ≡ None
  pub found : child_at s od on ≡ Some child
  pub apart : same_node (Some child) (child_at s nd nn) ≡ false
  pub named : is_nameless (node_at s nd) ≡ false
  pub below : is_own_child s (Some child) nd ≡ false
  pub back : (flags == 2 && is_own_child s (child_at s nd nn) od) ≡ false
  pub empty : (flags == 2) ≡ false → (old : Child) (node : Node) → child_at s nd nn ≡ Some old
      → node_at s old.node ≡ Some node → node.children.links ≡ []
  pub room : (nat_le 4 flags && has_no_number s) ≡ false

pub rename_takes : (s : State) (od : ℕ) (on : List ℕ) (nd : ℕ) (nn : List ℕ) (flags : ℕ) (child : Child)
    → directory_refusal (node_at s od) on ≡ None → directory_refusal (node_at s nd) nn ≡ None
    → child_at s od on ≡ Some child → same_node (Some child) (child_at s nd nn) ≡ false
    → rename_refusal s od nd nn flags (Some child) (child_at s nd nn) ≡ None
    → Renames s od on nd nn flags child
rename_takes s od on nd nn flags child from into found apart free =
    let target = child_at s nd nn in
    let it = node_at s child.node in
    let same = same_node (Some child) target in
    let old = node_of s (if flags == 2 || same then None else target) in
    let each = all_false
    ((not (is_served flags), einval)
    ∷ (is_none it || is_nameless (node_at s nd), enoent)
    ∷ (bit_and flags 1 == 1 && is_some target, eexist)
    ∷ (flags == 2 && is_none (node_of s target), enoent)
    ∷ (is_own_child s (Some child) nd || (flags == 2 && is_own_child s target od), einval)
    ∷ (is_none target && is_improper nn, einval)
    ∷ (is_none target && is_crowded (node_at s nd), enospc)
    ∷ (is_directory_at old && not (is_directory_at it), eisdir)
    ∷ (is_directory_at it && is_some old && not (is_directory_at old), enotdir)
    ∷ (Holds old, enotempty)
    ∷ (nat_le 4 flags && not same && has_no_number s, enospc) ∷ []) free in
    let own = or_parts (is_own_child s (Some child) nd) (flags == 2 && is_own_child s target od)
    each.1.1.1.1.0 in
    record {
      from = from;
      into = into;
      found = found;
      apart = apart;
      named = (or_parts (is_none it) (is_nameless (node_at s nd)) each.1.0).1;
      below = own.0;
      back = own.1;
      empty = λ two t node at is.
          let holds : Holds (node_of s target) ≡ false =
          replaces target (flags == 2 || same) (or_from (flags == 2) same two apart)
          each.1.1.1.1.1.1.1.1.1.0 in
          let here : Holds (Some node) ≡ false =
          sym (ap Holds is) ∙ sym (ap (λ o. Holds (node_of s o)) at) ∙ holds in
          none_in node.children.links
          (eqb-true (length node.children.links) 0
          (not-false (length node.children.links == 0) here));
      room = leaves (nat_le 4 flags) same apart each.1.1.1.1.1.1.1.1.1.1.0;
    }
  where
    replaces : (target : Option Child) (t : Bool) → t ≡ false
        → Holds (node_of s (if t then None else target)) ≡ false → Holds (node_of s target) ≡ false
    replaces target true is none = cc is
    replaces target false is none = none

    leaves : (l t : Bool) → t ≡ false → (l && not t && has_no_number s) ≡ false
        → (l && has_no_number s) ≡ false
    leaves true true is none = cc is
    leaves true false is none = none
    leaves false t is none = refl
