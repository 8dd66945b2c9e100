-- Every lookup taken back, of nodes in any order.
use Rattle.std.proofs.Common.{◌≡◌, ◌≢◌, ◌≤◌, ◌+◌, ◌-◌, ◌==◌, ◌&&◌, ◌||◌, not, nat_eq, if◌then◌else◌, ℕ, Bool, true, false, cond, List, [], ◌∷◌, map, Option, Some, None, Less, is_eq, refl, sym, ap, ◌∙◌, subst, arith, nat_cmp, ◌⊎◌, inl, inr, ⊎_elim}
use Rattle.std.specs.List.{AllByRecursion, list_any}
use Rattle.std.specs.Option.{option_map_or}
use Rattle.std.specs.List.Sorted.{IsStrictlySortedBy}
use Rattle.std.specs.Map.{lookup, set_value, remove_entry}
use Rattle.std.specs.BTreeMap.{is_at}
use Rattle.std.proofs.lemmas.Bool.{cases_Bool, cases_eq, cond-true, cond-false, eqb-true, eq-eqb, ne_eqb}
use Rattle.std.proofs.lemmas.Option.{same_Some}
use Rattle.std.proofs.lemmas.Map.{keys-set_value}
use Rattle.std.proofs.lemmas.Map.Keys.{sorted_head, sorted_tail}
use Rattle.fs_nodes.specs.Node.{weight}
use Rattle.fs_nodes.specs.declared.node.Node.{Node}
use Rattle.fs_tree.specs.Holding.{is_idle, rests}
use Rattle.fs_tree.specs.State.{State, node_at, settled, with_node, without_node}
use Rattle.fs_tree.specs.Tree.{forgotten, all_forgotten, released}
use Rattle.fs_tree.proofs.Nodes.{is_at_same, is_at_other, node_at-with_node, node_at-with_node_other, node_at-without_node_other}
use Rattle.fs_tree.proofs.Releasing.{at_itself, both, held_of}

-- ---- what is left when no lookup is held

-- the nodes that stay, how many bytes those take that go, and how many these are
pub record Left : Type 0 where
  pub nodes : List (ℕ × Node)
  pub bytes : ℕ
  pub count : ℕ

abbrev pub left_by : List (ℕ × Node) → (bytes count : ℕ) → Left
left_by nodes bytes count = record { nodes = nodes; bytes = bytes; count = count }

abbrev pub dropped : Node → Left → Left
dropped node r = left_by r.nodes (weight node + r.bytes) (1 + r.count)

abbrev pub kept : ℕ × Node → Left → Left
kept e r = left_by ((e.0, record e.1 { lookups = 0 }) ∷ r.nodes) r.bytes r.count

abbrev pub with_one : ℕ × Node → Left → Left
with_one e r = if e.1.names == 0 then dropped e.1 r else kept e r

abbrev pub left_of : List (ℕ × Node) → Left
left_of [] = left_by [] 0 0
left_of (e ∷ es) = with_one e (left_of es)

abbrev pub leaving : State → Left → State
leaving s r = record s { nodes = r.nodes; used = s.used - r.bytes; inodes = s.inodes - r.count }

abbrev pub emptied : State → State
emptied s = leaving s (left_of s.nodes)

-- ---- it is the same whatever was taken back before

dropped_later : (e : ℕ × Node) (node : Node) (r : Left)
    → with_one e (dropped node r) ≡ dropped node (with_one e r)
dropped_later e node r =
    let swapped : weight e.1 + (weight node + r.bytes) ≡ weight node + (weight e.1 + r.bytes) =
    omega arith in
    elim (e.1.names == 0) as
    (λ t. (if t then dropped e.1 (dropped node r) else kept e (dropped node r))
    ≡ dropped node (if t then dropped e.1 r else kept e r))
    [ true ↦ ap (λ b. left_by r.nodes b (1 + (1 + r.count))) swapped | false ↦ refl ]

module _ (n : ℕ) where
  left_set : (l : ℕ) (es : List (ℕ × Node)) (node : Node) → lookup (is_at (nat_cmp n)) es ≡ Some node
      → left_of (set_value (is_at (nat_cmp n)) es (record node { lookups = l })) ≡ left_of es
  left_set l [] node is = cc is
  left_set l (e ∷ es) node is = by (is_at (nat_cmp n) e.0) is (left_set l es node)
    where
      by : (t : Bool) → cond t (Some e.1) (lookup (is_at (nat_cmp n)) es) ≡ Some node
          → (lookup (is_at (nat_cmp n)) es ≡ Some node
          → left_of (set_value (is_at (nat_cmp n)) es (record node { lookups = l })) ≡ left_of es)
          → left_of (cond t ((e.0, record node { lookups = l }) ∷ es)
          (e ∷ set_value (is_at (nat_cmp n)) es (record node { lookups = l }))) ≡ left_of (e ∷ es)
      by true is later =
          subst (λ (x : Node). left_of ((e.0, record x { lookups = l }) ∷ es) ≡ left_of (e ∷ es))
          (same_Some e.1 node is) refl
      by false is later = ap (with_one e) (later is)

  left_removed : (es : List (ℕ × Node)) (node : Node) → lookup (is_at (nat_cmp n)) es ≡ Some node
      → (node.names == 0) ≡ true
      → dropped node (left_of (remove_entry (is_at (nat_cmp n)) es)) ≡ left_of es
  left_removed [] node is nameless = cc is
  left_removed (e ∷ es) node is nameless =
      by (is_at (nat_cmp n) e.0) is (λ found. left_removed es node found nameless)
    where
      by : (t : Bool) → cond t (Some e.1) (lookup (is_at (nat_cmp n)) es) ≡ Some node
          → (lookup (is_at (nat_cmp n)) es ≡ Some node
          → dropped node (left_of (remove_entry (is_at (nat_cmp n)) es)) ≡ left_of es)
          → dropped node (left_of (cond t es (e ∷ remove_entry (is_at (nat_cmp n)) es)))
          ≡ left_of (e ∷ es)
      by true is later =
          let same : e.1 ≡ node = same_Some e.1 node is in
          ap (λ (x : Node). dropped x (left_of es)) (sym same)
          ∙ sym (cond-true (e.1.names == 0) (dropped e.1 (left_of es)) (kept e (left_of es))
          (ap (λ (x : Node). x.names == 0) same ∙ nameless))
      by false is later =
          sym (dropped_later e node (left_of (remove_entry (is_at (nat_cmp n)) es)))
          ∙ ap (with_one e) (later is)

leaving_dropped : (s : State) (node : Node) (r : Left)
    → leaving (record s { used = s.used - weight node; inodes = s.inodes - 1 }) r
    ≡ leaving s (dropped node r)
leaving_dropped s node r =
    let bytes : (s.used - weight node) - r.bytes ≡ s.used - (weight node + r.bytes) = omega arith in
    let count : (s.inodes - 1) - r.count ≡ s.inodes - (1 + r.count) = omega arith in
    ap (λ (u : ℕ). record s { nodes = r.nodes; used = u; inodes = (s.inodes - 1) - r.count }) bytes
    ∙ ap (λ (i : ℕ). record s { nodes = r.nodes; used = s.used - (weight node + r.bytes); inodes = i }) count

both_true : (a b : Bool) → (a && b) ≡ true → a ≡ true
both_true true b is = refl
both_true false b is = cc is

emptied_forgotten : (s : State) (n count : ℕ) → emptied (forgotten s n count) ≡ emptied s
emptied_forgotten s n count = by (node_at s n) refl
  where
    by : (o : Option Node) → node_at s n ≡ o → emptied (option_map_or
        (λ (node : Node). settled s n (record node { lookups = node.lookups - count })) o s) ≡ emptied s
    by None is = refl
    by (Some node) is =
        let taken : Node = record node { lookups = node.lookups - count } in
        let test : Bool = node.names == 0 && node.lookups - count == 0 in
        ⊎_elim
        (λ (goes : test ≡ true).
        ap emptied (cond-true test (without_node s n taken) (with_node s n taken) goes)
        ∙ leaving_dropped s taken (left_of (remove_entry (is_at (nat_cmp n)) s.nodes))
        ∙ ap (leaving s) (left_removed n s.nodes node is
        (both_true (node.names == 0) (node.lookups - count == 0) goes)))
        (λ (stays : test ≡ false).
        ap emptied (cond-false test (without_node s n taken) (with_node s n taken) stays)
        ∙ ap (leaving s) (left_set n (node.lookups - count) s.nodes node is))
        (cases_Bool test)

emptied_all : (xs : List (ℕ × ℕ)) (s : State) → emptied (all_forgotten s xs) ≡ emptied s
emptied_all [] s = refl
emptied_all (x ∷ xs) s = emptied_all xs (forgotten s x.0 x.1) ∙ emptied_forgotten s x.0 x.1

-- ---- where all are idle, it is what is there

abbrev AllIdle : List (ℕ × Node) → Type 0
AllIdle es = AllByRecursion (λ e. is_idle e.1 ≡ true) es

left_idle : (es : List (ℕ × Node)) → AllIdle es → left_of es ≡ left_by es 0 0
left_idle [] all = refl
left_idle (e ∷ es) all =
    let facts = both (e.1.lookups == 0) (e.1.names == 0) all.0 in
    let none : e.1.lookups ≡ 0 = eqb-true e.1.lookups 0 facts.0 in
    ap (with_one e) (left_idle es all.1)
    ∙ cond-false (e.1.names == 0) (dropped e.1 (left_by es 0 0)) (kept e (left_by es 0 0)) facts.1
    ∙ ap (λ (l : ℕ). left_by ((e.0, record e.1 { lookups = l }) ∷ es) 0 0) (sym none)

emptied_idle : (s : State) → AllIdle s.nodes → emptied s ≡ s
emptied_idle s all =
    let bytes : s.used - 0 ≡ s.used = omega arith in
    let count : s.inodes - 0 ≡ s.inodes = omega arith in
    ap (leaving s) (left_idle s.nodes all)
    ∙ ap (λ (u : ℕ). record s { nodes = s.nodes; used = u; inodes = s.inodes - 0 }) bytes
    ∙ ap (λ (i : ℕ). record s { nodes = s.nodes; used = s.used; inodes = i }) count

-- ---- numbers in order

abbrev Ordered : List (ℕ × Node) → Type 0
Ordered es = IsStrictlySortedBy nat_cmp (map (λ e. e.0) es)

absent : (k : ℕ) (es : List (ℕ × Node)) → AllByRecursion (λ y. nat_cmp k y ≡ Less) (map (λ e. e.0) es)
    → lookup (is_at (nat_cmp k)) es ≡ None
absent k [] all = refl
absent k (e ∷ es) all =
    cond-false (is_at (nat_cmp k) e.0) (Some e.1) (lookup (is_at (nat_cmp k)) es) (ap is_eq all.0)
    ∙ absent k es all.1

-- the number of the first is not found among the others
not_later : (n : ℕ) (e : ℕ × Node) (es : List (ℕ × Node)) → Ordered (e ∷ es)
    → is_at (nat_cmp n) e.0 ≡ true → lookup (is_at (nat_cmp n)) es ≡ None
not_later n e es ordered here =
    subst (λ m. lookup (is_at (nat_cmp m)) es ≡ None) (sym (is_at_same n e.0 here))
    (absent e.0 es (sorted_head nat_cmp e.0 (map (λ e. e.0) es) ordered))

lookup_removed : (n : ℕ) (es : List (ℕ × Node)) → Ordered es
    → lookup (is_at (nat_cmp n)) (remove_entry (is_at (nat_cmp n)) es) ≡ None
lookup_removed n [] ordered = refl
lookup_removed n (e ∷ es) ordered =
    let rest = remove_entry (is_at (nat_cmp n)) es in
    ⊎_elim
    (λ (here : is_at (nat_cmp n) e.0 ≡ true).
    ap (lookup (is_at (nat_cmp n))) (cond-true (is_at (nat_cmp n) e.0) es (e ∷ rest) here)
    ∙ not_later n e es ordered here)
    (λ (other : is_at (nat_cmp n) e.0 ≡ false).
    ap (lookup (is_at (nat_cmp n))) (cond-false (is_at (nat_cmp n) e.0) es (e ∷ rest) other)
    ∙ cond-false (is_at (nat_cmp n) e.0) (Some e.1) (lookup (is_at (nat_cmp n)) rest) other
    ∙ lookup_removed n es (sorted_tail nat_cmp e.0 (map (λ e. e.0) es) ordered))
    (cases_Bool (is_at (nat_cmp n) e.0))

all_removed : (P : ℕ → Type 0) (test : ℕ → Bool) (es : List (ℕ × Node))
    → AllByRecursion P (map (λ e. e.0) es) → AllByRecursion P (map (λ e. e.0) (remove_entry test es))
all_removed P test [] all = tt
all_removed P test (e ∷ es) all = by (test e.0) (all_removed P test es all.1)
  where
    by : (t : Bool) → AllByRecursion P (map (λ e. e.0) (remove_entry test es))
        → AllByRecursion P (map (λ e. e.0) (cond t es (e ∷ remove_entry test es)))
    by true later = all.1
    by false later = (all.0, later)

ordered_more : (e : ℕ × Node) (es : List (ℕ × Node))
    → AllByRecursion (λ y. nat_cmp e.0 y ≡ Less) (map (λ e. e.0) es) → Ordered es → Ordered (e ∷ es)
unfolding IsStrictlySortedBy
ordered_more e es all ordered = (all, ordered)

ordered_removed : (test : ℕ → Bool) (es : List (ℕ × Node)) → Ordered es → Ordered (remove_entry test es)
ordered_removed test [] ordered = ordered
ordered_removed test (e ∷ es) ordered =
    by (test e.0) (ordered_removed test es (sorted_tail nat_cmp e.0 (map (λ e. e.0) es) ordered))
  where
    by : (t : Bool) → Ordered (remove_entry test es) → Ordered (cond t es (e ∷ remove_entry test es))
    by true later = sorted_tail nat_cmp e.0 (map (λ e. e.0) es) ordered
    by false later =
        ordered_more e (remove_entry test es)
        (all_removed (λ y. nat_cmp e.0 y ≡ Less) test es (sorted_head nat_cmp e.0 (map (λ e. e.0) es) ordered))
        later

ordered_forgotten : (s : State) (n count : ℕ) → Ordered s.nodes → Ordered (forgotten s n count).nodes
ordered_forgotten s n count ordered = by (node_at s n)
  where
    by : (o : Option Node) → Ordered (option_map_or
        (λ (node : Node). settled s n (record node { lookups = node.lookups - count })) o s).nodes
    by None = ordered
    by (Some node) = either (node.names == 0 && node.lookups - count == 0)
      where
        either : (t : Bool) → Ordered (if t then without_node s n (record node { lookups = node.lookups - count })
            else with_node s n (record node { lookups = node.lookups - count })).nodes
        either true = ordered_removed (is_at (nat_cmp n)) s.nodes ordered
        either false =
            subst (λ ks. IsStrictlySortedBy nat_cmp ks)
            (sym (keys-set_value (is_at (nat_cmp n)) s.nodes (record node { lookups = node.lookups - count })))
            ordered

ordered_all : (xs : List (ℕ × ℕ)) (s : State) → Ordered s.nodes → Ordered (all_forgotten s xs).nodes
ordered_all [] s ordered = ordered
ordered_all (x ∷ xs) s ordered =
    ordered_all xs (forgotten s x.0 x.1) (ordered_forgotten s x.0 x.1 ordered)

-- what holds of each node that is found holds of all
all_from_found : (es : List (ℕ × Node)) → Ordered es
    → ((n : ℕ) → rests (lookup (is_at (nat_cmp n)) es) ≡ true) → AllIdle es
all_from_found [] ordered found = tt
all_from_found (e ∷ es) ordered found = (
  sym (ap rests (cond-true (is_at (nat_cmp e.0) e.0) (Some e.1) (lookup (is_at (nat_cmp e.0)) es)
      (at_itself e.0))) ∙ found e.0,
  all_from_found es (sorted_tail nat_cmp e.0 (map (λ e. e.0) es) ordered) (λ n.
      ⊎_elim
      (λ (here : is_at (nat_cmp n) e.0 ≡ true). ap rests (not_later n e es ordered here))
      (λ (other : is_at (nat_cmp n) e.0 ≡ false).
      sym (ap rests (cond-false (is_at (nat_cmp n) e.0) (Some e.1) (lookup (is_at (nat_cmp n)) es) other))
      ∙ found n)
      (cases_Bool (is_at (nat_cmp n) e.0))),
)

-- ---- a node whose lookups were taken back

forgotten_other : (s : State) (n m count : ℕ) → m ≢ n → node_at (forgotten s n count) m ≡ node_at s m
forgotten_other s n m count apart = by (node_at s n)
  where
    by : (o : Option Node) → node_at (option_map_or
        (λ (node : Node). settled s n (record node { lookups = node.lookups - count })) o s) m ≡ node_at s m
    by None = refl
    by (Some node) = either (node.names == 0 && node.lookups - count == 0)
      where
        either : (t : Bool) → node_at (if t then without_node s n (record node { lookups = node.lookups - count })
            else with_node s n (record node { lookups = node.lookups - count })) m ≡ node_at s m
        either true = node_at-without_node_other s n m (record node { lookups = node.lookups - count }) apart
        either false = node_at-with_node_other s n m (record node { lookups = node.lookups - count }) apart

idle_if : (a b : Bool) → (a && b) ≡ false → b ≡ true → (b && not a) ≡ true
idle_if true true is it = cc is
idle_if true false is it = cc it
idle_if false true is it = refl
idle_if false false is it = cc it

rests_after : (s : State) (n count : ℕ) → Ordered s.nodes
    → ((node : Node) → node_at s n ≡ Some node → node.lookups ≤ count)
    → rests (node_at (forgotten s n count) n) ≡ true
rests_after s n count ordered most = by (node_at s n) refl
  where
    by : (o : Option Node) → node_at s n ≡ o → rests (node_at (option_map_or
        (λ (node : Node). settled s n (record node { lookups = node.lookups - count })) o s) n) ≡ true
    by None is = ap rests is
    by (Some node) is =
        let taken : Node = record node { lookups = node.lookups - count } in
        let test : Bool = node.names == 0 && node.lookups - count == 0 in
        let up : node.lookups ≤ count = most node is in
        let none : node.lookups - count ≡ 0 = omega (arith, up) in
        ⊎_elim
        (λ (goes : test ≡ true).
        ap (λ (t : State). rests (node_at t n))
        (cond-true test (without_node s n taken) (with_node s n taken) goes)
        ∙ ap rests (lookup_removed n s.nodes ordered))
        (λ (stays : test ≡ false).
        ap (λ (t : State). rests (node_at t n))
        (cond-false test (without_node s n taken) (with_node s n taken) stays)
        ∙ ap rests (node_at-with_node s n n taken node is)
        ∙ idle_if (node.names == 0) (node.lookups - count == 0) stays
        (eq-eqb (node.lookups - count) 0 none))
        (cases_Bool test)

-- ---- all of them, in order

idle_least : (node : Node) (count : ℕ) → is_idle node ≡ true → node.lookups ≤ count
idle_least node count idle =
    let none : node.lookups ≡ 0 =
    eqb-true node.lookups 0 (both (node.lookups == 0) (node.names == 0) idle).0 in
    omega (arith, none)

all_rest : (es : List (ℕ × Node)) (s : State) → Ordered s.nodes
    → ((n : ℕ) → (rests (node_at s n) ≡ true) ⊎ (node_at s n ≡ lookup (is_at (nat_cmp n)) es))
    → (n : ℕ) → rests (node_at (all_forgotten s (held_of es)) n) ≡ true
all_rest [] s ordered each n = ⊎_elim (λ (r : rests (node_at s n) ≡ true). r) (λ is. ap rests is) (each n)
all_rest (e ∷ es) s ordered each n =
    all_rest es (forgotten s e.0 e.1.lookups) (ordered_forgotten s e.0 e.1.lookups ordered) later n
  where
    most : (node : Node) → node_at s e.0 ≡ Some node → node.lookups ≤ e.1.lookups
    most node is =
        ⊎_elim
        (λ (r : rests (node_at s e.0) ≡ true). idle_least node e.1.lookups (sym (ap rests is) ∙ r))
        (λ (found : node_at s e.0 ≡ lookup (is_at (nat_cmp e.0)) (e ∷ es)).
        let same : e.1 ≡ node = same_Some e.1 node
        (sym (found ∙ cond-true (is_at (nat_cmp e.0) e.0) (Some e.1) (lookup (is_at (nat_cmp e.0)) es)
        (at_itself e.0)) ∙ is) in
        let lookups = ap (λ (x : Node). x.lookups) same in
        omega (arith, lookups))
        (each e.0)

    later : (m : ℕ) → (rests (node_at (forgotten s e.0 e.1.lookups) m) ≡ true)
        ⊎ (node_at (forgotten s e.0 e.1.lookups) m ≡ lookup (is_at (nat_cmp m)) es)
    later m =
        ⊎_elim
        (λ (same : m ≡ e.0).
        inl (subst (λ k. rests (node_at (forgotten s e.0 e.1.lookups) k) ≡ true) (sym same)
        (rests_after s e.0 e.1.lookups ordered most)))
        (λ (apart : m ≢ e.0).
        let still = forgotten_other s e.0 m e.1.lookups apart in
        ⊎_elim
        (λ (r : rests (node_at s m) ≡ true). inl (ap rests still ∙ r))
        (λ (found : node_at s m ≡ lookup (is_at (nat_cmp m)) (e ∷ es)).
        inr (still ∙ found ∙ cond-false (is_at (nat_cmp m) e.0) (Some e.1) (lookup (is_at (nat_cmp m)) es)
        (is_at_other m e.0 apart)))
        (each m))
        (cases_eq m e.0)

-- no lookup is held then
pub released_rests : (s : State) → Ordered s.nodes → (n : ℕ) → rests (node_at (released s) n) ≡ true
released_rests s ordered = all_rest s.nodes s ordered (λ n. inr refl)

released_emptied : (s : State) → Ordered s.nodes → released s ≡ emptied s
released_emptied s ordered =
    sym (emptied_idle (released s) (all_from_found (released s).nodes
    (ordered_all (held_of s.nodes) s ordered) (released_rests s ordered)))
    ∙ emptied_all (held_of s.nodes) s

-- ---- the loop

-- nodes of these numbers are left, among others that rest
pub record AreLeft (first s : State) (numbers : List ℕ) : Type 0 where
  pub same : emptied s ≡ emptied first
  pub ordered : Ordered s.nodes
  pub noted : (n : ℕ) → list_any (nat_eq n) numbers ≡ false → rests (node_at s n) ≡ true

pub left_first : (s : State) (numbers its : List ℕ) → its ≡ numbers → Ordered s.nodes
    → ((n : ℕ) → list_any (nat_eq n) numbers ≡ false → rests (node_at s n) ≡ true)
    → AreLeft s s its
left_first s numbers its same ordered noted =
    subst (λ (ks : List ℕ). AreLeft s s ks) (sym same)
    (record { same = refl; ordered = ordered; noted = noted })

left_with : (first s : State) (k count : ℕ) (numbers : List ℕ) → AreLeft first s (k ∷ numbers)
    → ((node : Node) → node_at s k ≡ Some node → node.lookups ≤ count)
    → AreLeft first (forgotten s k count) numbers
left_with first s k count numbers left most = record {
  same = emptied_forgotten s k count ∙ left.same;
  ordered = ordered_forgotten s k count left.ordered;
  noted = noted;
}
  where
    noted : (n : ℕ) → list_any (nat_eq n) numbers ≡ false → rests (node_at (forgotten s k count) n) ≡ true
    noted n none =
        ⊎_elim
        (λ (same : n ≡ k).
        subst (λ (m : ℕ). rests (node_at (forgotten s k count) m) ≡ true) (sym same)
        (rests_after s k count left.ordered most))
        (λ (apart : n ≢ k).
        ap rests (forgotten_other s k n count apart)
        ∙ left.noted n (ap (λ (t : Bool). t || list_any (nat_eq n) numbers) (ne_eqb n k apart) ∙ none))
        (cases_eq n k)

pub left_more : (first s next : State) (k : ℕ) (its numbers : List ℕ) → AreLeft first s its
    → its ≡ k ∷ numbers
    → next ≡ forgotten s k (option_map_or (λ node. node.lookups) (node_at s k) 0)
    → AreLeft first next numbers
left_more first s next k its numbers left is step =
    let most : (node : Node) → node_at s k ≡ Some node
    → node.lookups ≤ option_map_or (λ node. node.lookups) (node_at s k) 0 =
    λ node found.
    let all = ap (λ (o : Option Node). option_map_or (λ (x : Node). x.lookups) o 0) found in
    omega (arith, all) in
    subst (λ (t : State). AreLeft first t numbers) (sym step)
    (left_with first s k (option_map_or (λ node. node.lookups) (node_at s k) 0) numbers
    (subst (λ (ks : List ℕ). AreLeft first s ks) is left) most)

pub left_none : (first s : State) (its : List ℕ) → Ordered first.nodes → AreLeft first s its → its ≡ []
    → s ≡ released first
left_none first s its ordered left none =
    sym (emptied_idle s (all_from_found s.nodes left.ordered (λ n.
    left.noted n (ap (list_any (nat_eq n)) none))))
    ∙ left.same ∙ sym (released_emptied first ordered)
