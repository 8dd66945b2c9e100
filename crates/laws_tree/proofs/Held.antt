-- The lookups that are held of nodes, where nodes were changed, added or taken out of a sound state.
use Rattle.std.proofs.Common.{rules, tests, ◌≡◌, ◌≢◌, ◌==◌, ℕ, Bool, true, false, Some, None, IfSome, nat_cmp, is_eq, refl, sym, ap, subst, ◌∙◌, arith, if◌then◌else◌, ◌&&◌}
use Rattle.std.specs.BTreeMap.{is_at}
use Rattle.std.proofs.lemmas.Cmp.{nat_cmp_total, tied_itself}
use Rattle.laws_tree.specs.Laws.{lookups_in, lookups_of, IsHeld, IsSound}
use Rattle.fs_tree.specs.State.{State, node_at, with_node, with_new, without_node, settled}
use Rattle.fs_nodes.specs.declared.node.Node.{Node}
use Rattle.laws_tree.proofs.Ascending.{ascend-set_value, ascend-remove_entry, ascend-insert_entry, gone-remove_entry, none_from}
use Rattle.fs_tree.proofs.Nodes.{is_at_same, node_at-with_node, node_at-with_node_other, node_at-without_node_other, node_at-with_new, node_at-with_new_other}

-- ---- numbers

apart_from : (n m : ℕ) → is_at (nat_cmp n) m ≡ false → m ≢ n
apart_from n m isnt e =
    let is : is_at (nat_cmp n) m ≡ true =
    ap (λ k. is_eq (nat_cmp n k)) e ∙ ap is_eq (tied_itself nat_cmp_total n) in
    cc (is, isnt)

-- one number is another, or it is not
pub at : (n m : ℕ) (P : Type 0) → (n ≡ m → P) → (m ≢ n → P) → P
at n m P same apart = by (is_at (nat_cmp n) m) refl
  where
    by : (t : Bool) → is_at (nat_cmp n) m ≡ t → P
    by true is = same (is_at_same n m is)
    by false is = apart (apart_from n m is)

-- ---- how many inodes are counted

pub sound_counted : (s : State) (inodes : ℕ) → IsSound s → IsSound (record s { inodes = inodes })
sound_counted s inodes sound = record { ordered = sound.ordered; held = sound.held }

-- ---- a node that is changed

module _ (s : State) (n : ℕ) (was node : Node) (is : node_at s n ≡ Some was) where
  pub lookups_here : lookups_of (with_node s n node) n ≡ node.lookups
  lookups_here = ap lookups_in (node_at-with_node s n n node was is)

  pub lookups_other : (m : ℕ) → m ≢ n → lookups_of (with_node s n node) m ≡ lookups_of s m
  lookups_other m apart = ap lookups_in (node_at-with_node_other s n m node apart)

  pub sound-with_node : IsSound s → IsHeld node → IsSound (with_node s n node)
  sound-with_node sound held = record {
    ordered = ascend-set_value (is_at (nat_cmp n)) 1 s.next s.nodes node sound.ordered;
    held = λ m. at n m (IfSome (node_at (with_node s n node) m) IsHeld)
        (λ e. subst (λ k. IfSome (node_at (with_node s n node) k) IsHeld) e
        (subst (λ o. IfSome o IsHeld) (sym (node_at-with_node s n n node was is)) held))
        (λ apart. subst (λ o. IfSome o IsHeld) (sym (node_at-with_node_other s n m node apart))
        (sound.held m));
  }

-- ---- a node that is taken out

module _ (s : State) (n : ℕ) (node : Node) (sound : IsSound s) where
  gone : node_at (without_node s n node) n ≡ None
  gone = gone-remove_entry 1 s.next n s.nodes sound.ordered

  pub lookups_gone : lookups_of (without_node s n node) n ≡ 0
  lookups_gone = ap lookups_in gone

  pub lookups_without_other : (m : ℕ) → m ≢ n
      → lookups_of (without_node s n node) m ≡ lookups_of s m
  lookups_without_other m apart = ap lookups_in (node_at-without_node_other s n m node apart)

  pub sound-without_node : IsSound (without_node s n node)
  sound-without_node = record {
    ordered = ascend-remove_entry (is_at (nat_cmp n)) 1 s.next s.nodes sound.ordered;
    held = λ m. at n m (IfSome (node_at (without_node s n node) m) IsHeld)
        (λ e. subst (λ k. IfSome (node_at (without_node s n node) k) IsHeld) e
        (subst (λ o. IfSome o IsHeld) (sym gone) tt))
        (λ apart. subst (λ o. IfSome o IsHeld) (sym (node_at-without_node_other s n m node apart))
        (sound.held m));
  }

-- ---- a node that is new

module _ (s : State) (node : Node) (sound : IsSound s) where
  pub none_yet : lookups_of s s.next ≡ 0
  none_yet = ap lookups_in (none_from 1 s.next s.next s.nodes sound.ordered (omega arith))

  pub lookups_new : lookups_of (with_new s node) s.next ≡ node.lookups
  lookups_new = ap lookups_in (node_at-with_new s s.next node)

  pub lookups_new_other : (m : ℕ) → m ≢ s.next
      → lookups_of (with_new s node) m ≡ lookups_of s m
  lookups_new_other m apart = ap lookups_in (node_at-with_new_other s m node apart)

  pub sound-with_new : IsHeld node → IsSound (with_new s node)
  sound-with_new held = record {
    ordered = ascend-insert_entry 1 s.next s.nodes node sound.ordered;
    held = λ m. at s.next m (IfSome (node_at (with_new s node) m) IsHeld)
        (λ e. subst (λ k. IfSome (node_at (with_new s node) k) IsHeld) e
        (subst (λ o. IfSome o IsHeld) (sym (node_at-with_new s s.next node)) held))
        (λ apart. subst (λ o. IfSome o IsHeld) (sym (node_at-with_new_other s m node apart))
        (sound.held m));
  }

-- ---- a node that may go

module _ (s : State) (n : ℕ) (was node : Node) (is : node_at s n ≡ Some was)
    (sound : IsSound s) where
  -- the lookups of it are those that it has, and of others as they were
  pub record Settles (new : State) : Type 0 where
    pub stays : IsSound new
    pub here : lookups_of new n ≡ node.lookups
    pub other : (m : ℕ) → m ≢ n → lookups_of new m ≡ lookups_of s m

  pub settles : Settles (settled s n node)
  settles = by (node.names == 0 && node.lookups == 0) refl
    where
      by : (t : Bool) → (node.names == 0 && node.lookups == 0) ≡ t
          → Settles (if t then without_node s n node else with_node s n node)
      by true none = record {
        stays = sound-without_node s n node sound;
        here = lookups_gone s n node sound ∙ search (rules, tests);
        other = lookups_without_other s n node sound;
      }
      by false some = record {
        stays = sound-with_node s n was node is sound (λ zero. search (rules, tests));
        here = lookups_here s n was node is;
        other = lookups_other s n was node is;
      }
