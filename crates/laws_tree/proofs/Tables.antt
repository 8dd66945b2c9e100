-- How many names lead from one number to another, where nodes were changed, added or taken out.
use Rattle.std.proofs.Common.{◌≡◌, ◌≢◌, ◌+◌, ◌<◌, ◌≤◌, ℕ, Bool, false, List, [], ◌∷◌, Option, Some, None, option_map, nat_cmp, Ordering, Less, Equal, Greater, refl, ap, arith}
use Rattle.std.specs.BTreeMap.{insert_entry, is_at}
use Rattle.std.specs.Cmp.{ranks}
use Rattle.std.specs.List.{sum_by}
use Rattle.std.specs.Map.{values_of}
use Rattle.std.specs.Option.{unwrap_or}
use Rattle.std.specs.Ordering.{match_ordering, MatchOrdering}
use Rattle.std.proofs.lemmas.List.Sums.{sum_by-cons}
use Rattle.std.proofs.lemmas.Map.Entries.{sum_by-remove_entry, sum_by-set_value}
use Rattle.fs_tree.specs.Children.{Link, is_directory}
use Rattle.laws_tree.specs.Laws.{names_in, names_to, Ascend, IsSound}
use Rattle.fs_tree.specs.State.{State, node_at, with_node, with_new, without_node}
use Rattle.fs_nodes.specs.declared.kind.Kind.{Kind}
use Rattle.fs_nodes.specs.declared.node.Node.{Node}
use Rattle.laws_tree.proofs.Ascending.{ascend_within, gone-remove_entry, none_from}
use Rattle.fs_tree.proofs.Nodes.{node_at-without_node_other}

abbrev pub links_in : Option Node → List (ℕ × Link)
links_in None = []
links_in (Some node) = node.children.links

-- how many names of this directory lead to a node
abbrev pub names_at : State → (directory number : ℕ) → ℕ
names_at s d n = names_in n (links_in (node_at s d))

abbrev pub kind_in : Option Node → Option Kind
kind_in None = None
kind_in (Some node) = Some node.kind

abbrev pub kind_at : State → (number : ℕ) → Option Kind
kind_at s n = kind_in (node_at s n)

abbrev pub is_dir : Option Kind → Bool
is_dir None = false
is_dir (Some kind) = is_directory kind

abbrev pub names_from : (number : ℕ) → Node → ℕ
names_from n node = names_in n node.children.links

-- ---- a node that is changed

module _ (s : State) (k : ℕ) (was node : Node) (is : node_at s k ≡ Some was) where
  pub names_to-with_node : (n : ℕ)
      → names_to (with_node s k node) n + names_in n was.children.links
      ≡ names_to s n + names_in n node.children.links
  names_to-with_node n = sum_by-set_value (names_from n) (is_at (nat_cmp k)) s.nodes was node is

-- ---- a node that is taken out

left_names : (n : ℕ) (o : Option Node)
    → unwrap_or (option_map (names_from n) o) 0 ≡ names_in n (links_in o)
left_names n None = refl
left_names n (Some node) = refl

module _ (s : State) (k : ℕ) (node : Node) where
  pub names_to-without_node : (n : ℕ)
      → names_to (without_node s k node) n + names_at s k n ≡ names_to s n
  names_to-without_node n =
      let left = sum_by-remove_entry (names_from n) (is_at (nat_cmp k)) s.nodes in
      omega (arith, left, left_names n (node_at s k))

  pub names_at-without_node : (e n : ℕ) → e ≢ k
      → names_at (without_node s k node) e n ≡ names_at s e n
  names_at-without_node e n apart =
      ap (λ o. names_in n (links_in o)) (node_at-without_node_other s k e node apart)

-- the names of one directory are some of all
pub names_at_most : (s : State) (k : ℕ) (node : Node) (n : ℕ) → names_at s k n ≤ names_to s n
names_at_most s k node n = omega (arith, names_to-without_node s k node n)

-- so are those of two
pub names_at_both : (s : State) (d e : ℕ) (node : Node) (n : ℕ) → d ≢ e
    → names_at s d n + names_at s e n ≤ names_to s n
names_at_both s d e node n apart =
    let left = without_node s e node in
    omega (
      arith,
      names_to-without_node s e node n,
      names_at_most left d node n,
      names_at-without_node s e node d n apart,
    )

-- ---- a node that is new

module _ (f : Node → ℕ) where
  sum_by-insert_last : (from to : ℕ) (es : List (ℕ × Node)) (w : Node) → Ascend from es to
      → sum_by f (values_of (insert_entry nat_cmp es to w)) ≡ sum_by f (values_of es) + f w
  sum_by-insert_last from to [] w a = omega arith
  sum_by-insert_last from to (e ∷ es) w a =
      by (nat_cmp to e.0) (ranks to e.0) (sum_by-insert_last (e.0 + 1) to es w a.1)
    where
      by : (r : Ordering) → MatchOrdering r (to < e.0) (to ≡ e.0) (e.0 < to)
          → sum_by f (values_of (insert_entry nat_cmp es to w)) ≡ sum_by f (values_of es) + f w
          → sum_by f (values_of
          (match_ordering r ((to, w) ∷ e ∷ es) ((e.0, w) ∷ es) (e ∷ insert_entry nat_cmp es to w)))
          ≡ sum_by f (values_of (e ∷ es)) + f w
      by Less is later = absurd (omega (arith, is, ascend_within (e.0 + 1) to es a.1))
      by Equal is later = absurd (omega (arith, is, ascend_within (e.0 + 1) to es a.1))
      by Greater is later =
          omega (
            arith,
            later,
            sum_by-cons f e.1 (values_of es),
            sum_by-cons f e.1 (values_of (insert_entry nat_cmp es to w)),
          )

module _ (s : State) (node : Node) (sound : IsSound s) where
  pub names_to-with_new : (n : ℕ)
      → names_to (with_new s node) n ≡ names_to s n + names_in n node.children.links
  names_to-with_new n = sum_by-insert_last (names_from n) 1 s.next s.nodes node sound.ordered

  pub free_number : node_at s s.next ≡ None
  free_number = none_from 1 s.next s.next s.nodes sound.ordered (omega arith)

-- what is taken out is gone
pub gone_number : (s : State) (k : ℕ) (node : Node) → IsSound s
    → node_at (without_node s k node) k ≡ None
gone_number s k node sound = gone-remove_entry 1 s.next k s.nodes sound.ordered
