-- The node of a number, where nodes were changed, added or taken out.
use Rattle.std.proofs.Common.{◌≡◌, ◌≢◌, ℕ, true, false, List, Option, Some, None, nat_cmp, is_eq, Ordering, Less, Equal, Greater, refl, sym, ap, ◌∙◌}
use Rattle.std.proofs.lemmas.Cmp.{nat_cmp_total}
use Rattle.std.proofs.lemmas.Map.Lookups.{exact_unsigned}
use Rattle.std.specs.BTreeMap.{insert_entry, is_at}
use Rattle.std.specs.Map.{lookup, remove_entry}
use Rattle.std.specs.Option.{option_map_or}
use Rattle.fs_nodes.specs.Children.{Children}
use Rattle.fs_nodes.specs.declared.node.Node.{Node}
use Rattle.fs_tree.specs.Naming.{is_directory_at}
use Rattle.fs_tree.specs.State.{State, node_at, with_node, with_new, without_node, change}
use Rattle.fs_tree.proofs.Entries.{lookup-set_value_none, lookup-set_value_apart, lookup-remove_entry_apart, lookup-set_value_here, lookup-insert_entry, lookup-insert_entry_apart, remove_entry-insert_entry}

-- ---- numbers

not_equal : (n m : ℕ) → n ≢ m → (r : Ordering) → nat_cmp n m ≡ r → is_eq r ≡ false
not_equal n m apart Less is = refl
not_equal n m apart Equal is = absurd (apart (exact_unsigned n m is))
not_equal n m apart Greater is = refl

pub is_at_other : (n m : ℕ) → n ≢ m → is_at (nat_cmp n) m ≡ false
is_at_other n m apart = not_equal n m apart (nat_cmp n m) refl

equal : (n m : ℕ) (r : Ordering) → nat_cmp n m ≡ r → is_eq r ≡ true → n ≡ m
equal n m Less is e = cc
equal n m Equal is e = exact_unsigned n m is
equal n m Greater is e = cc

pub is_at_same : (n m : ℕ) → is_at (nat_cmp n) m ≡ true → n ≡ m
is_at_same n m e = equal n m (nat_cmp n m) refl e

pub tests_apart : (n m : ℕ) → n ≢ m → (k : ℕ) → is_at (nat_cmp m) k ≡ true
    → is_at (nat_cmp n) k ≡ false
tests_apart n m apart k is = is_at_other n k (λ e. apart (e ∙ sym (is_at_same m k is)))

-- ---- entries

-- a new entry that is taken out again
pub remove_entry_new : {X : Type 0} (n : ℕ) (es : List (ℕ × X)) (w : X)
    → lookup (is_at (nat_cmp n)) es ≡ None
    → remove_entry (is_at (nat_cmp n)) (insert_entry nat_cmp es n w) ≡ es
remove_entry_new n es w free = remove_entry-insert_entry nat_cmp_total n w es free

-- a number that was free is free where a value was set
pub ruleset still_free = (lookup-set_value_none)

-- ---- states

module _ (s : State) (n m : ℕ) (node : Node) where
  pub node_at-with_node : (was : Node) → node_at s n ≡ Some was
      → node_at (with_node s n node) n ≡ Some node
  node_at-with_node was is = lookup-set_value_here (is_at (nat_cmp n)) s.nodes was node is

  pub node_at-with_node_other : m ≢ n → node_at (with_node s n node) m ≡ node_at s m
  node_at-with_node_other apart =
      lookup-set_value_apart (is_at (nat_cmp m)) (is_at (nat_cmp n)) (tests_apart m n apart)
      s.nodes node

  pub node_at-without_node_other : m ≢ n → node_at (without_node s n node) m ≡ node_at s m
  node_at-without_node_other apart =
      lookup-remove_entry_apart (is_at (nat_cmp m)) (is_at (nat_cmp n)) (tests_apart m n apart)
      s.nodes

module _ (s : State) (m : ℕ) (node : Node) where
  pub node_at-with_new : node_at (with_new s node) s.next ≡ Some node
  node_at-with_new = lookup-insert_entry nat_cmp_total s.next node s.nodes

  pub node_at-with_new_other : m ≢ s.next → node_at (with_new s node) m ≡ node_at s m
  node_at-with_new_other apart =
      lookup-insert_entry_apart nat_cmp_total s.next node m (is_at_other m s.next apart) s.nodes

-- what a change leaves, by the node that it finds
abbrev pub changed : State → (number : ℕ) → (Node → Node) → Option Node → State
changed s n f o = option_map_or (λ node. with_node s n (f node)) o s

-- what is found at another number than that of the node that is changed
changed_other : (s : State) (n m : ℕ) (f : Node → Node) (o : Option Node) → m ≢ n
    → node_at (changed s n f o) m ≡ node_at s m
changed_other s n m f None apart = refl
changed_other s n m f (Some node) apart = node_at-with_node_other s n m (f node) apart

pub node_at-change_other : (s : State) (n m : ℕ) (f : Node → Node) → m ≢ n
    → node_at (change s n f) m ≡ node_at s m
node_at-change_other s n m f apart = changed_other s n m f (node_at s n) apart

-- the names of a directory are changed, now
abbrev pub with_names : State → (directory : ℕ) → (Children → Children) → State
with_names s d f = change s d (λ node. record node { children = f node.children; mtime = s.now; ctime = s.now })

-- that counts no inode
pub inodes-with_names : (s : State) (d : ℕ) (f : Children → Children) → (with_names s d f).inodes ≡ s.inodes
inodes-with_names s d f = by (node_at s d)
  where
    by : (o : Option Node)
        → (changed s d (λ node. record node { children = f node.children; mtime = s.now; ctime = s.now }) o).inodes
        ≡ s.inodes
    by None = refl
    by (Some node) = refl

-- a node that is no directory stays as it was where a directory's names are changed
pub kinds_apart : (s : State) (n parent : ℕ) (f : Children → Children)
    → is_directory_at (node_at s n) ≡ false → is_directory_at (node_at s parent) ≡ true
    → node_at (with_names s parent f) n ≡ node_at s n
kinds_apart s n parent f none above =
    node_at-change_other s parent n
    (λ node. record node { children = f node.children; mtime = s.now; ctime = s.now })
    (λ e. let same = ap (λ k. is_directory_at (node_at s k)) e in cc same)

pub found_still : (s t : State) (n parent : ℕ) (f : Children → Children) → t ≡ with_names s parent f
    → is_directory_at (node_at s n) ≡ false → is_directory_at (node_at s parent) ≡ true
    → node_at t n ≡ node_at s n
found_still s t n parent f is none above =
    ap (λ (x : State). node_at x n) is ∙ kinds_apart s n parent f none above
