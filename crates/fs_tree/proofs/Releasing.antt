-- Lookups of all nodes, taken back one node after another.
use Rattle.std.proofs.Common.{◌≡◌, ◌<◌, ◌≤◌, ◌+◌, ◌-◌, ◌==◌, ◌&&◌, not, if◌then◌else◌, ℕ, Bool, true, false, cond, nat_lt, List, [], ◌∷◌, length, map, Option, Some, None, Less, Equal, Greater, is_eq, is_lt, refl, sym, ap, ◌∙◌, subst, arith, nat_cmp, ⊎_elim}
use Rattle.std.specs.List.{AllByRecursion}
use Rattle.std.specs.Option.{option_map_or}
use Rattle.std.specs.List.Sorted.{IsStrictlySortedBy}
use Rattle.std.specs.Ordering.{MatchOrdering}
use Rattle.std.specs.Cmp.{ranks}
use Rattle.std.specs.declared.ops.Bound.TheVariants.{Excluded, Unbounded}
use Rattle.std.specs.BTreeMap.Range.{entries_between}
use Rattle.std.proofs.lemmas.List.Elements.{filter_agree}
use Rattle.std.specs.Map.{lookup, set_value, remove_entry}
use Rattle.std.specs.BTreeMap.{is_at}
use Rattle.std.proofs.lemmas.Bool.{cases_Bool, cond-true, cond-false, ltb-true, ltb-false, eqb-true, and_left}
use Rattle.std.proofs.lemmas.Map.Steps.{set_value_same}
use Rattle.std.proofs.lemmas.Map.Keys.{sorted_head, sorted_tail}
use Rattle.std.proofs.lemmas.Cmp.{nat_cmp_total, tied_itself}
use Rattle.fs_nodes.specs.declared.node.Node.{Node}
use Rattle.fs_tree.specs.Holding.{is_idle, first_held}
use Rattle.fs_tree.specs.State.{State, following, node_at, settled, with_node, without_node}
use Rattle.fs_tree.specs.Tree.{forgotten, all_forgotten, released}
use Rattle.fs_tree.proofs.Nodes.{is_at_same, is_at_other}

-- ---- numbers

not_below : (n m : ℕ) → m ≤ n → nat_lt n m ≡ false
not_below n m up =
    ⊎_elim (λ is. absurd (omega (arith, ltb-true n m is, up))) (λ is. is) (cases_Bool (nat_lt n m))

is_below : (n m : ℕ) → n < m → nat_lt n m ≡ true
is_below n m up =
    ⊎_elim (λ is. is) (λ is. absurd (omega (arith, ltb-false n m is, up))) (cases_Bool (nat_lt n m))

less : (n m : ℕ) → nat_cmp n m ≡ Less → n < m
less n m is = subst (λ r. MatchOrdering r (n < m) (n ≡ m) (m < n)) is (ranks n m)

-- ---- one node more is done

-- all after a number
whole_after : (n m : ℕ) → n ≤ m → (es : List (ℕ × Node))
    → AllByRecursion (λ k. nat_cmp m k ≡ Less) (map (λ e. e.0) es) → following (Some n) es ≡ es
whole_after n m up [] all = refl
whole_after n m up (e ∷ es) all =
    let above : n < e.0 = omega (arith, less m e.0 all.0, up) in
    cond-true (nat_lt n e.0) (e ∷ following (Some n) es) (following (Some n) es) (is_below n e.0 above)
    ∙ ap (λ (l : List (ℕ × Node)). e ∷ l) (whole_after n m up es all.1)

-- what is after a number has greater ones
first_above : (es : List (ℕ × Node)) (n k : ℕ) (x : Node) (rest : List (ℕ × Node))
    → following (Some n) es ≡ (k, x) ∷ rest → n < k
first_above [] n k x rest is = cc is
first_above (e ∷ es) n k x rest is =
    ⊎_elim
    (λ passes.
    let all : e ∷ following (Some n) es ≡ (k, x) ∷ rest =
    sym (cond-true (nat_lt n e.0) (e ∷ following (Some n) es) (following (Some n) es) passes) ∙ is in
    let here : e.0 ≡ k = cc all in
    omega (arith, ltb-true n e.0 passes, here))
    (λ fails.
    first_above es n k x rest
    (sym (cond-false (nat_lt n e.0) (e ∷ following (Some n) es) (following (Some n) es) fails) ∙ is))
    (cases_Bool (nat_lt n e.0))

-- after the first of those that are after a number are the others
pub next_after : (es : List (ℕ × Node)) → IsStrictlySortedBy nat_cmp (map (λ e. e.0) es)
    → (number : Option ℕ) (k : ℕ) (x : Node) (rest : List (ℕ × Node))
    → following number es ≡ (k, x) ∷ rest → following (Some k) es ≡ rest
next_after [] sorted None k x rest is = cc is
next_after [] sorted (Some n) k x rest is = cc is
next_after (e ∷ es) sorted None k x rest is =
    let here : e.0 ≡ k = cc is in
    let others : es ≡ rest = cc is in
    let head = sorted_head nat_cmp e.0 (map (λ e. e.0) es) sorted in
    subst (λ (n : ℕ). following (Some n) (e ∷ es) ≡ es) here
    (cond-false (nat_lt e.0 e.0) (e ∷ following (Some e.0) es) (following (Some e.0) es)
    (not_below e.0 e.0 (omega arith))
    ∙ whole_after e.0 e.0 (omega arith) es head)
    ∙ others
next_after (e ∷ es) sorted (Some n) k x rest is =
    let head = sorted_head nat_cmp e.0 (map (λ e. e.0) es) sorted in
    let tail = sorted_tail nat_cmp e.0 (map (λ e. e.0) es) sorted in
    ⊎_elim
    (λ passes.
    let all : e ∷ following (Some n) es ≡ (k, x) ∷ rest =
    sym (cond-true (nat_lt n e.0) (e ∷ following (Some n) es) (following (Some n) es) passes) ∙ is in
    let here : e.0 ≡ k = cc all in
    let others : following (Some n) es ≡ rest = cc all in
    let up : n ≤ e.0 = omega (arith, ltb-true n e.0 passes) in
    subst (λ (m : ℕ). following (Some m) (e ∷ es) ≡ es) here
    (cond-false (nat_lt e.0 e.0) (e ∷ following (Some e.0) es) (following (Some e.0) es)
    (not_below e.0 e.0 (omega arith))
    ∙ whole_after e.0 e.0 (omega arith) es head)
    ∙ sym (whole_after n e.0 up es head) ∙ others)
    (λ fails.
    let later : following (Some n) es ≡ (k, x) ∷ rest =
    sym (cond-false (nat_lt n e.0) (e ∷ following (Some n) es) (following (Some n) es) fails) ∙ is in
    let up = first_above es n k x rest later in
    cond-false (nat_lt k e.0) (e ∷ following (Some k) es) (following (Some k) es)
    (not_below k e.0 (omega (arith, ltb-false n e.0 fails, up)))
    ∙ next_after es tail (Some n) k x rest later)
    (cases_Bool (nat_lt n e.0))

-- ---- the first after a number

between_all : (es : List (ℕ × Node)) → entries_between nat_cmp Unbounded Unbounded es ≡ es
between_all [] = refl
between_all (e ∷ es) = ap (λ (l : List (ℕ × Node)). e ∷ l) (between_all es)

between_after : (n : ℕ) (es : List (ℕ × Node))
    → entries_between nat_cmp (Excluded n) Unbounded es ≡ following (Some n) es
between_after n es =
    filter_agree (λ e. is_lt (nat_cmp n e.0) && true) (λ e. nat_lt n e.0) (λ e. same n e.0) es
  where
    same : (a b : ℕ) → (is_lt (nat_cmp a b) && true) ≡ nat_lt a b
    same a b =
        elim (nat_lt a b) as
        (λ t. (is_lt (cond t Less (cond (a == b) Equal Greater)) && true) ≡ t) [
          | true ↦ refl
          | false ↦
              elim (a == b) as (λ t. (is_lt (cond t Equal Greater) && true) ≡ false)
              [ true ↦ refl | false ↦ refl ]
        ]

pub held_of_all : (number : Option ℕ) (es given : List (ℕ × Node)) → number ≡ None
    → given ≡ entries_between nat_cmp Unbounded Unbounded es
    → first_held given ≡ first_held (following number es)
held_of_all number es given none is =
    ap first_held (is ∙ between_all es) ∙ ap (λ (o : Option ℕ). first_held (following o es)) (sym none)

pub held_following : (number : Option ℕ) (n : ℕ) (es given : List (ℕ × Node)) → number ≡ Some n
    → given ≡ entries_between nat_cmp (Excluded n) Unbounded es
    → first_held given ≡ first_held (following number es)
held_following number n es given some is =
    ap first_held (is ∙ between_after n es)
    ∙ ap (λ (o : Option ℕ). first_held (following o es)) (sym some)

-- ---- a node that is changed or goes is not after itself

module _ (n : ℕ) where
  here_fails : (k : ℕ) → is_at (nat_cmp n) k ≡ true → nat_lt n k ≡ false
  here_fails k is =
      subst (λ m. nat_lt n m ≡ false) (is_at_same n k is) (not_below n n (omega arith))

  following-set_value : (es : List (ℕ × Node)) (node : Node)
      → following (Some n) (set_value (is_at (nat_cmp n)) es node) ≡ following (Some n) es
  following-set_value [] node = refl
  following-set_value (e ∷ es) node =
      let set = set_value (is_at (nat_cmp n)) es node in
      let kept = following (Some n) es in
      ⊎_elim
      (λ here.
      ap (following (Some n)) (cond-true (is_at (nat_cmp n) e.0) ((e.0, node) ∷ es) (e ∷ set) here)
      ∙ cond-false (nat_lt n e.0) ((e.0, node) ∷ kept) kept (here_fails e.0 here)
      ∙ sym (cond-false (nat_lt n e.0) (e ∷ kept) kept (here_fails e.0 here)))
      (λ other.
      ap (following (Some n)) (cond-false (is_at (nat_cmp n) e.0) ((e.0, node) ∷ es) (e ∷ set) other)
      ∙ ap (λ (l : List (ℕ × Node)). cond (nat_lt n e.0) (e ∷ l) l) (following-set_value es node))
      (cases_Bool (is_at (nat_cmp n) e.0))

  following-remove_entry : (es : List (ℕ × Node))
      → following (Some n) (remove_entry (is_at (nat_cmp n)) es) ≡ following (Some n) es
  following-remove_entry [] = refl
  following-remove_entry (e ∷ es) =
      let left = remove_entry (is_at (nat_cmp n)) es in
      let kept = following (Some n) es in
      ⊎_elim
      (λ here.
      ap (following (Some n)) (cond-true (is_at (nat_cmp n) e.0) es (e ∷ left) here)
      ∙ sym (cond-false (nat_lt n e.0) (e ∷ kept) kept (here_fails e.0 here)))
      (λ other.
      ap (following (Some n)) (cond-false (is_at (nat_cmp n) e.0) es (e ∷ left) other)
      ∙ ap (λ (l : List (ℕ × Node)). cond (nat_lt n e.0) (e ∷ l) l) (following-remove_entry es))
      (cases_Bool (is_at (nat_cmp n) e.0))

following-settled : (s : State) (n : ℕ) (node : Node)
    → following (Some n) (settled s n node).nodes ≡ following (Some n) s.nodes
following-settled s n node =
    elim (node.names == 0 && node.lookups == 0) as
    (λ t. following (Some n) (if t then without_node s n node else with_node s n node).nodes
    ≡ following (Some n) s.nodes)
    [ true ↦ following-remove_entry n s.nodes | false ↦ following-set_value n s.nodes node ]

following-forgotten : (s : State) (n count : ℕ)
    → following (Some n) (forgotten s n count).nodes ≡ following (Some n) s.nodes
following-forgotten s n count = by (node_at s n)
  where
    by : (o : Option Node)
        → following (Some n) (option_map_or
        (λ (node : Node). settled s n (record node { lookups = node.lookups - count })) o s).nodes
        ≡ following (Some n) s.nodes
    by None = refl
    by (Some node) = following-settled s n (record node { lookups = node.lookups - count })

-- the lookups of these nodes
abbrev pub held_of : List (ℕ × Node) → List (ℕ × ℕ)
held_of nodes = map (λ e. (e.0, e.1.lookups)) nodes

-- ---- the loop

-- what is left to do: the lookups of these nodes
pub record IsLeft (first s : State) (at : Option ℕ) : Type 0 where
  pub rest : all_forgotten s (held_of (following at s.nodes)) ≡ released first

-- one node is done
done_more : (first s next : State) (at : Option ℕ) (n count : ℕ) (node : Node)
    → IsLeft first s at → count ≡ node.lookups
    → following at s.nodes ≡ (n, node) ∷ following (Some n) s.nodes
    → next ≡ forgotten s n count
    → IsLeft first next (Some n)
    × (length (following (Some n) next.nodes) + 1 ≡ length (following at s.nodes))
done_more first s next at n count node left counted is step =
    let same : following (Some n) next.nodes ≡ following (Some n) s.nodes =
    ap (λ (t : State). following (Some n) t.nodes) step ∙ following-forgotten s n count in
    let went : forgotten s n count ≡ next = sym step in (
      record {
        rest =
            ap (λ es. all_forgotten next (held_of es)) same
            ∙ ap (λ (t : State). all_forgotten t (held_of (following (Some n) s.nodes))) step
            ∙ ap (λ c. all_forgotten (forgotten s n c)
            (held_of (following (Some n) s.nodes))) counted
            ∙ sym (ap (λ es. all_forgotten s (held_of es)) is) ∙ left.rest;
      },
      omega (arith, ap length same, ap length is),
    )

-- ---- idle nodes

pub at_itself : (n : ℕ) → is_at (nat_cmp n) n ≡ true
at_itself n = ap is_eq (tied_itself nat_cmp_total n)

found_head : (e : ℕ × Node) (es : List (ℕ × Node)) (k : ℕ) (x : Node) → e.0 ≡ k → e.1 ≡ x
    → lookup (is_at (nat_cmp k)) (e ∷ es) ≡ Some x
found_head e es k x here this =
    cond-true (is_at (nat_cmp k) e.0) (Some e.1) (lookup (is_at (nat_cmp k)) es)
    (ap (is_at (nat_cmp k)) here ∙ at_itself k)
    ∙ ap (λ (node : Node). Some node) this

-- the first of those that are after a number is found
found_following : (es : List (ℕ × Node)) (number : Option ℕ) (k : ℕ) (x : Node) (rest : List (ℕ × Node))
    → following number es ≡ (k, x) ∷ rest → lookup (is_at (nat_cmp k)) es ≡ Some x
found_following [] None k x rest is = cc is
found_following [] (Some n) k x rest is = cc is
found_following (e ∷ es) None k x rest is = found_head e es k x (cc is) (cc is)
found_following (e ∷ es) (Some n) k x rest is =
    ⊎_elim
    (λ passes.
    let all : e ∷ following (Some n) es ≡ (k, x) ∷ rest =
    sym (cond-true (nat_lt n e.0) (e ∷ following (Some n) es) (following (Some n) es) passes) ∙ is in
    found_head e es k x (cc all) (cc all))
    (λ fails.
    let later : following (Some n) es ≡ (k, x) ∷ rest =
    sym (cond-false (nat_lt n e.0) (e ∷ following (Some n) es) (following (Some n) es) fails) ∙ is in
    let up = first_above es n k x rest later in
    let apart : k ≡ e.0 → ⊥ = λ same. omega (arith, same, up, ltb-false n e.0 fails) in
    cond-false (is_at (nat_cmp k) e.0) (Some e.1) (lookup (is_at (nat_cmp k)) es)
    (is_at_other k e.0 apart)
    ∙ found_following es (Some n) k x rest later)
    (cases_Bool (nat_lt n e.0))

pub both : (a b : Bool) → (a && not b) ≡ true → (a ≡ true) × (b ≡ false)
both true true is = cc is
both true false is = (refl, refl)
both false b is = cc is

-- taking back the lookups of an idle node changes nothing
idle_stays : (s : State) (n : ℕ) (node : Node) → node_at s n ≡ Some node → is_idle node ≡ true
    → s ≡ forgotten s n node.lookups
idle_stays s n node is idle =
    let facts = both (node.lookups == 0) (node.names == 0) idle in
    let none : node.lookups ≡ 0 = eqb-true node.lookups 0 facts.0 in
    let left : node.lookups - node.lookups ≡ node.lookups = omega (arith, none) in
    let taken : Node = record node { lookups = node.lookups - node.lookups } in
    let stays : (node.names == 0 && node.lookups - node.lookups == 0) ≡ false =
    and_left (node.names == 0) (node.lookups - node.lookups == 0) facts.1 in
    sym
    (ap (λ o. option_map_or
    (λ (x : Node). settled s n (record x { lookups = x.lookups - node.lookups })) o s) is
    ∙ cond-false (node.names == 0 && node.lookups - node.lookups == 0) (without_node s n taken)
    (with_node s n taken) stays
    ∙ ap (λ l. with_node s n (record node { lookups = l })) left
    ∙ ap (λ (es : List (ℕ × Node)). record s { nodes = es })
    (set_value_same (is_at (nat_cmp n)) s.nodes node is))

-- where nothing is left
all_done : (first s : State) (at : Option ℕ) → IsLeft first s at
    → following at s.nodes ≡ [] → s ≡ released first
all_done first s at left none =
    sym (ap (λ es. all_forgotten s (held_of es)) none) ∙ left.rest

-- what is left, and the first of it is not idle
record IsHeld (first s : State) (n count most : ℕ) : Type 0 where
  at : Option ℕ
  node : Node
  left : IsLeft first s at
  counted : count ≡ node.lookups
  here : following at s.nodes ≡ (n, node) ∷ following (Some n) s.nodes
  few : length (following at s.nodes) ≤ most

module _ (first s : State) (sorted : IsStrictlySortedBy nat_cmp (map (λ e. e.0) s.nodes)) where
  skip : (at : Option ℕ) (e : ℕ × Node) (es : List (ℕ × Node)) → following at s.nodes ≡ e ∷ es
      → IsLeft first s at → is_idle e.1 ≡ true
      → (following (Some e.0) s.nodes ≡ es) × IsLeft first s (Some e.0)
  skip at e es is left idle =
      let next : following (Some e.0) s.nodes ≡ es = next_after s.nodes sorted at e.0 e.1 es is in (
        next,
        (done_more first s s at e.0 e.1.lookups e.1 left refl
            (is ∙ ap (λ (l : List (ℕ × Node)). e ∷ l) (sym next))
            (idle_stays s e.0 e.1 (found_following s.nodes at e.0 e.1 es is) idle)).0,
      )

  skipped : (es : List (ℕ × Node)) (at : Option ℕ) → following at s.nodes ≡ es → IsLeft first s at
      → (n count : ℕ) → first_held es ≡ Some (n, count) → IsHeld first s n count (length es)
  skipped [] at is left n count held = cc held
  skipped (e ∷ es) at is left n count held =
      ⊎_elim
      (λ (idle : is_idle e.1 ≡ true).
      let on = skip at e es is left idle in
      let rest = skipped es (Some e.0) on.0 on.1 n count
      (sym (cond-true (is_idle e.1) (first_held es) (Some (e.0, e.1.lookups)) idle) ∙ held) in
      let few = rest.few in
      record {
        at = rest.at;
        node = rest.node;
        left = rest.left;
        counted = rest.counted;
        here = rest.here;
        few = omega (arith, few);
      })
      (λ (busy : is_idle e.1 ≡ false).
      let it : Some (e.0, e.1.lookups) ≡ Some (n, count) =
      sym (cond-false (is_idle e.1) (first_held es) (Some (e.0, e.1.lookups)) busy) ∙ held in
      let pair : (e.0, e.1.lookups) ≡ (n, count) = cc in
      let number : e.0 ≡ n = ap (λ (p : ℕ × ℕ). p.0) pair in
      let lookups : count ≡ e.1.lookups = sym (ap (λ (p : ℕ × ℕ). p.1) pair) in
      let next : following (Some e.0) s.nodes ≡ es = next_after s.nodes sorted at e.0 e.1 es is in
      record {
        at = at;
        node = e.1;
        left = left;
        counted = lookups;
        here = is ∙ ap (λ (l : List (ℕ × Node)). e ∷ l) (sym next)
            ∙ ap (λ (m : ℕ). (m, e.1) ∷ following (Some m) s.nodes) number;
        few = omega (arith, ap length is);
      })
      (cases_Bool (is_idle e.1))

  pub held_more : (next : State) (at : Option ℕ) (n count : ℕ) → IsLeft first s at
      → Some (n, count) ≡ first_held (following at s.nodes) → next ≡ forgotten s n count
      → IsLeft first next (Some n)
      × (length (following (Some n) next.nodes) + 1 ≤ length (following at s.nodes))
  held_more next at n count left held step =
      let it = skipped (following at s.nodes) at refl left n count (sym held) in
      let more = done_more first s next it.at n count it.node it.left it.counted it.here step in
      let fewer = more.1 in
      let few = it.few in
      (more.0, omega (arith, fewer, few))

  none_held : (es : List (ℕ × Node)) (at : Option ℕ) → following at s.nodes ≡ es → IsLeft first s at
      → first_held es ≡ None → s ≡ released first
  none_held [] at is left none = all_done first s at left is
  none_held (e ∷ es) at is left none =
      ⊎_elim
      (λ (idle : is_idle e.1 ≡ true).
      let on = skip at e es is left idle in
      none_held es (Some e.0) on.0 on.1
      (sym (cond-true (is_idle e.1) (first_held es) (Some (e.0, e.1.lookups)) idle) ∙ none))
      (λ (busy : is_idle e.1 ≡ false).
      let it : Some (e.0, e.1.lookups) ≡ None =
      sym (cond-false (is_idle e.1) (first_held es) (Some (e.0, e.1.lookups)) busy) ∙ none in
      cc it)
      (cases_Bool (is_idle e.1))

  pub all_idle : (at : Option ℕ) → IsLeft first s at → None ≡ first_held (following at s.nodes)
      → s ≡ released first
  all_idle at left none = none_held (following at s.nodes) at refl left (sym none)
