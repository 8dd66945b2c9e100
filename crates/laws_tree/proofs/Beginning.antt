-- A new file system is as the calls keep it.
use Rattle.std.proofs.Common.{◌≡◌, ◌<◌, ◌+◌, ◌==◌, ℕ, Bool, true, false, cond, [], Some, None, IfSome, nat_cmp, refl, ap, subst, arith, if◌then◌else◌}
use Rattle.std.specs.BTreeMap.{is_at}
use Rattle.std.specs.List.{IsDistinct}
use Rattle.std.specs.Str.{bytes_eq}
use Rattle.std.proofs.lemmas.Bool.{ne_eqb}
use Rattle.std.proofs.lemmas.List.Elements.{All-nil}
use Rattle.fs_tree.specs.Children.{is_directory}
use Rattle.laws_tree.specs.Laws.{lookups_in, IsHeld, IsNamed, IsTree, Leads, NewOnesAreTrees, above, names_of, names_to}
use Rattle.fs_tree.specs.State.{State, node_at}
use Rattle.fs_tree.specs.Tree.{first_state, root_node}
use Rattle.fs_tree.specs.declared.fs.Capacity.{Capacity}
use Rattle.fs_nodes.specs.declared.node.Node.{Node}
use Rattle.fs_nodes.specs.declared.node.Time.{Time}
use Rattle.laws_tree.proofs.Held.{at}
use Rattle.fs_tree.proofs.Nodes.{is_at_same, is_at_other}

none_apart : IsDistinct bytes_eq []
unfolding IsDistinct
none_apart = tt

module _ (uid gid permissions : ℕ) (limits : Capacity) (writeback : Bool) (now : Time) where
  abbrev first : State
  first = first_state uid gid permissions limits writeback now

  abbrev root : Node
  root = root_node uid gid permissions now

  -- what holds of the root holds of each node
  each : (n : ℕ) (P : Node → Type 0) → (n ≡ 1 → P root) → IfSome (node_at first n) P
  each n P holds = by (is_at (nat_cmp n) 1) refl
    where
      by : (t : Bool) → is_at (nat_cmp n) 1 ≡ t → IfSome (cond t (Some root) None) P
      by true is = holds (is_at_same n 1 is)
      by false is = tt

  held : IsHeld root
  held none = absurd (omega (arith, none))

  named : (n : ℕ) → IsNamed first n root
  named n = record {
    apart = none_apart;
    leads = All-nil (λ link. Leads first n link.1.child (node_at first link.1.child.node));
    files = λ none. refl;
    nameless = λ none. refl;
    single = λ directory. omega arith;
  }

  counted : (n : ℕ) → names_of (node_at first n) ≡ names_to first n + (if n == 1 then 1 else 0)
  counted n =
      let Counts : ℕ → Type 0 =
      λ k. names_of (node_at first k) ≡ names_to first k + (if k == 1 then 1 else 0) in
      at 1 n (Counts n) (λ e. subst Counts e refl)
      (λ apart.
      let none : names_of (node_at first n) ≡ 0 =
      ap (λ t. names_of (cond t (Some root) None)) (is_at_other n 1 apart) in
      let one : Bool → ℕ = λ t. if t then 1 else 0 in
      let rest : one (n == 1) ≡ 0 = ap one (ne_eqb n 1 apart) in
      omega (arith, none, rest))

  tree : IsTree first
  tree = record {
    sound = record {
      ordered = (omega arith, omega arith);
      held = λ n. each n IsHeld (λ e. held);
    };
    within = record {
      used = refl;
      bytes = omega arith;
      counted = refl;
      inodes = omega arith;
      files = (λ is. cc is, tt);
    };
    linked = record {
      root = refl;
      top = refl;
      counted = counted;
      named = λ n. each n (IsNamed first n) (λ e. named n);
    };
    rooted = λ n. each n
        (λ node. is_directory node.kind ≡ true → 0 < node.names
        → (k : ℕ) × (above first k n ≡ 1))
        (λ e directory some. (0, e));
  }

-- no lookup of it is held
none : (root : Node) → root.lookups ≡ 0 → (t : Bool) → lookups_in (cond t (Some root) None) ≡ 0
none root is true = is
none root is false = refl

pub new_ones_are_trees : NewOnesAreTrees
new_ones_are_trees uid gid permissions limits writeback now = (
  tree uid gid permissions limits writeback now,
  λ n. none (root_node uid gid permissions now) refl (is_at (nat_cmp n) 1),
)
