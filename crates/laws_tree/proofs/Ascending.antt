-- Entries in order of their numbers, where one was changed, added or taken out.
use Rattle.std.proofs.Common.{◌≡◌, ◌≢◌, ◌≤◌, ◌<◌, ◌+◌, ℕ, Bool, true, false, cond, List, [], ◌∷◌, None, nat_cmp, Ordering, Less, Equal, Greater, refl, arith}
use Rattle.std.specs.BTreeMap.{insert_entry, is_at}
use Rattle.std.specs.Map.{lookup, set_value, remove_entry}
use Rattle.std.specs.Ordering.{match_ordering, MatchOrdering}
use Rattle.std.specs.Cmp.{ranks}
use Rattle.laws_tree.specs.Laws.{Ascend}
use Rattle.fs_nodes.specs.declared.node.Node.{Node}
use Rattle.fs_tree.proofs.Nodes.{is_at_same, is_at_other}

-- the first number may be lower
pub ascend_from : (low from to : ℕ) (es : List (ℕ × Node)) → low ≤ from → Ascend from es to
    → Ascend low es to
ascend_from low from to [] less a = omega arith
ascend_from low from to (e ∷ es) less a = (omega (arith, a.0), a.1)

pub ascend_within : (from to : ℕ) (es : List (ℕ × Node)) → Ascend from es to → from ≤ to
ascend_within from to [] a = a
ascend_within from to (e ∷ es) a = omega (arith, a.0, ascend_within (e.0 + 1) to es a.1)

-- a number below the first has no entry
pub none_below : (from to q : ℕ) (es : List (ℕ × Node)) → Ascend from es to → q < from
    → lookup (is_at (nat_cmp q)) es ≡ None
none_below from to q [] a below = refl
none_below from to q (e ∷ es) a below =
    let apart : q ≢ e.0 = omega (arith, a.0) in
    let later = none_below (e.0 + 1) to q es a.1 (omega (arith, a.0)) in
    rw (is_at_other q e.0 apart) later

-- nor has one from the last on
pub none_from : (from to q : ℕ) (es : List (ℕ × Node)) → Ascend from es to → to ≤ q
    → lookup (is_at (nat_cmp q)) es ≡ None
none_from from to q [] a above = refl
none_from from to q (e ∷ es) a above =
    let apart : q ≢ e.0 = omega (arith, ascend_within (e.0 + 1) to es a.1) in
    rw (is_at_other q e.0 apart) (none_from (e.0 + 1) to q es a.1 above)

pub ascend-set_value : (test : ℕ → Bool) (from to : ℕ) (es : List (ℕ × Node)) (w : Node)
    → Ascend from es to → Ascend from (set_value test es w) to
ascend-set_value test from to [] w a = a
ascend-set_value test from to (e ∷ es) w a =
    by (test e.0) (ascend-set_value test (e.0 + 1) to es w a.1)
  where
    by : (t : Bool) → Ascend (e.0 + 1) (set_value test es w) to
        → Ascend from (cond t ((e.0, w) ∷ es) (e ∷ set_value test es w)) to
    by true later = a
    by false later = (a.0, later)

pub ascend-remove_entry : (test : ℕ → Bool) (from to : ℕ) (es : List (ℕ × Node))
    → Ascend from es to → Ascend from (remove_entry test es) to
ascend-remove_entry test from to [] a = a
ascend-remove_entry test from to (e ∷ es) a =
    by (test e.0) (ascend-remove_entry test (e.0 + 1) to es a.1)
  where
    by : (t : Bool) → Ascend (e.0 + 1) (remove_entry test es) to
        → Ascend from (cond t es (e ∷ remove_entry test es)) to
    by true later = ascend_from from (e.0 + 1) to es (omega (arith, a.0)) a.1
    by false later = (a.0, later)

-- an entry after the last
pub ascend-insert_entry : (from to : ℕ) (es : List (ℕ × Node)) (w : Node)
    → Ascend from es to → Ascend from (insert_entry nat_cmp es to w) (to + 1)
ascend-insert_entry from to [] w a = (a, omega arith)
ascend-insert_entry from to (e ∷ es) w a =
    by (nat_cmp to e.0) (ranks to e.0) (ascend-insert_entry (e.0 + 1) to es w a.1)
  where
    by : (r : Ordering) → MatchOrdering r (to < e.0) (to ≡ e.0) (e.0 < to)
        → Ascend (e.0 + 1) (insert_entry nat_cmp es to w) (to + 1)
        → Ascend from
        (match_ordering r ((to, w) ∷ e ∷ es) ((e.0, w) ∷ es) (e ∷ insert_entry nat_cmp es to w))
        (to + 1)
    by Less is later = absurd (omega (arith, is, ascend_within (e.0 + 1) to es a.1))
    by Equal is later = absurd (omega (arith, is, ascend_within (e.0 + 1) to es a.1))
    by Greater is later = (a.0, later)

-- what was taken out is gone
pub gone-remove_entry : (from to n : ℕ) (es : List (ℕ × Node)) → Ascend from es to
    → lookup (is_at (nat_cmp n)) (remove_entry (is_at (nat_cmp n)) es) ≡ None
gone-remove_entry from to n [] a = refl
gone-remove_entry from to n (e ∷ es) a =
    by (is_at (nat_cmp n) e.0) refl (gone-remove_entry (e.0 + 1) to n es a.1)
  where
    by : (t : Bool) → is_at (nat_cmp n) e.0 ≡ t
        → lookup (is_at (nat_cmp n)) (remove_entry (is_at (nat_cmp n)) es) ≡ None
        → lookup (is_at (nat_cmp n)) (cond t es (e ∷ remove_entry (is_at (nat_cmp n)) es)) ≡ None
    by true is later =
        none_below (e.0 + 1) to n es a.1 (omega (arith, is_at_same n e.0 is))
    by false is later = rw is later
