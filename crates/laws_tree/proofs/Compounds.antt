-- Links after each call that adds or takes out a name.
use Rattle.std.proofs.Common.{◌≡◌, ◌≢◌, ◌+◌, ◌-◌, ◌<◌, ◌≤◌, min, ℕ, true, false, List, [], find, Option, Some, None, option_map, refl, sym, ap, ◌∙◌, subst, arith}
use Rattle.std.proofs.lemmas.Bool.{both_ways, false≢true}
use Rattle.std.proofs.lemmas.Option.{none-some, same_Some}
use Rattle.fs_tree.specs.Children.{Link, Children, is_directory, is_named, child_named, leading}
use Rattle.laws_tree.specs.Laws.{names_in, names_to, names_of, IsSound, IsLinked}
use Rattle.fs_tree.specs.Rename.{parent_of}
use Rattle.fs_tree.specs.State.{State, node_at, with_node, with_new, change}
use Rattle.fs_tree.specs.Tree.{linked, taken_out}
use Rattle.fs_nodes.specs.declared.children.Child.{Child}
use Rattle.fs_nodes.specs.declared.kind.Kind.{Kind}
use Rattle.fs_nodes.specs.declared.node.Node.{Node}
use Rattle.fs_nodes.proofs.Finds.{every_found}
use Rattle.laws_tree.proofs.Held.{at}
use Rattle.laws_tree.proofs.Keeping.{keeps-with_names}
use Rattle.laws_tree.proofs.NamesIn.{one, one_same, one_other, Apart, names_in-found}
use Rattle.fs_tree.proofs.Nodes.{node_at-with_new, node_at-with_new_other, changed, with_names}
use Rattle.laws_tree.proofs.Shapes.{Shape, Fits, AllFit, Good, kind_new, kind_new_other, good-with_new, Counted, Home, linked_from, good_from, counted_from, home_from}
use Rattle.laws_tree.proofs.Steps.{Step, found_link, none_lost, step-with_child, step-without_child, step_home, linked_counted, linked-recounted, linked-with_node, linked-settled}
use Rattle.laws_tree.proofs.Tables.{links_in, names_at, kind_in, kind_at, is_dir, names_at_most, names_at_both, names_to-with_new, free_number}
use Rattle.laws_tree.proofs.Changes.{unnamed_at, made}

-- ---- what is found

-- nothing is found where there is nothing
pub empty_finds : (children : Children) (name : List ℕ) (child : Child) → children.links ≡ []
    → child_named children name ≡ Some child → ⊥
empty_finds children name child empty found =
    none-some child
    (sym (ap (λ l. option_map (λ (link : ℕ × Link). link.1.child) (find (is_named name) l)) empty)
    ∙ found)

-- a node that is seen is there
pub there_is : (o : Option Node) (kind : Kind) → kind_in o ≡ Some kind
    → (node : Node) × (o ≡ Some node)
there_is None kind is = absurd (none-some kind is)
there_is (Some node) kind is = (node, refl)

module _ (s : State) (d : ℕ) (node : Node) (is : node_at s d ≡ Some node) (name : List ℕ)
    (child : Child) (found : child_named node.children name ≡ Some child) where
  pub found_fits : Good s → Fits s child
  found_fits good =
      let e = found_link (find (is_named name) node.children.links) child found in
      subst (Fits s) e.2
      (every_found (λ (link : ℕ × Link). Fits s link.1.child) (is_named name) node.children.links
      e.0 (good.nodes d node is).fits e.1)

  pub found_counts : 0 < names_at s d child.node
  found_counts =
      let e = found_link (find (is_named name) node.children.links) child found in
      subst (λ o. 0 < names_in child.node (links_in o)) (sym is)
      (subst (λ (c : Child). 0 < names_in c.node node.children.links) e.2
      (names_in-found name node.children.links e.0 e.1))

-- where no more names lead to a node than it says
module _ (s : State) (good : Good s) (most : (m : ℕ) → names_to s m + one m 1 ≤ names_of (node_at s m)) where
  -- one at most leads to a directory
  single_in : (m : ℕ) (o : Option Node) → node_at s m ≡ o → is_dir (kind_in o) ≡ true
      → names_to s m ≤ 1
  single_in m None is dir = absurd (false≢true dir)
  single_in m (Some node) is dir =
      let few = (good.nodes m node is).shape.single dir in
      let same = ap names_of is in
      omega (arith, few, same, most m)

  pub single_at : (m : ℕ) → is_dir (kind_at s m) ≡ true → names_to s m ≤ 1
  single_at m dir = single_in m (node_at s m) refl dir

  -- and none to the root
  root_names : (o : Option Node) → node_at s 1 ≡ o → names_to s 1 ≡ 0
  root_names None is =
      let none = ap names_of is in
      absurd (omega (arith, none, most 1, one_same 1 1 refl))
  root_names (Some node) is =
      let few = (good.nodes 1 node is).shape.single (good.root node.kind (ap kind_in is)) in
      let same = ap names_of is in
      omega (arith, few, same, most 1, one_same 1 1 refl)

  pub root_unnamed : (node : Node) (d n : ℕ) → 0 < names_at s d n → 1 ≢ n
  root_unnamed node d n some e =
      let none = subst (λ j. names_to s j ≡ 0) e (root_names (node_at s 1) refl) in
      omega (arith, none, some, names_at_most s d node n)

-- a directory that lies where its only name is
pub arrived_home : (s : State) (node : Node) (m p : ℕ) → parent_of (node_at s m) ≡ p
    → (is_dir (kind_at s m) ≡ true → names_to s m ≤ 1) → 0 < names_at s p m → Home s m
arrived_home s node m p lies few some dir d apart =
    let both = names_at_both s d p node m (λ e. apart (e ∙ sym lies)) in
    omega (arith, both, few dir, some)

-- the shape of a node without names that has one name less
pub shape_empty : (kind : Kind) (names : ℕ) (links : List (ℕ × Link)) → links ≡ []
    → Shape kind names links → Shape kind (names - 1) links
shape_empty kind names links empty old = record {
  apart = old.apart;
  files = old.files;
  nameless = λ zero. empty;
  single = λ dir. let few = old.single dir in omega (arith, few);
}

-- ---- a node that is new

module _ (s : State) (sound : IsSound s) (linked : IsLinked s) (node : Node)
    (few : node.names ≤ 1) (empty : node.children.links ≡ []) where
  abbrev mid : State
  mid = with_new s node

  good : Good s
  good = good_from s linked

  counted : Counted s
  counted = counted_from s linked

  free_next : node_at s s.next ≡ None
  free_next = free_number s node sound

  root_there : 1 ≢ s.next
  root_there e =
      let none = ap names_of (ap (node_at s) e ∙ free_next) in
      let some = one_same 1 1 refl in
      omega (arith, none, some, counted 1)

  next_none : names_to s s.next ≡ 0
  next_none =
      let none = ap names_of free_next in
      omega (arith, none, counted s.next)

  pub good_mid : Good mid
  good_mid =
      good-with_new s node sound root_there good
      (record {
        apart = subst Apart (sym empty) tt;
        files = λ file. empty;
        nameless = λ zero. empty;
        single = λ dir. few;
      })
      (subst (AllFit s) (sym empty) tt)

  abbrev child_made : Child
  child_made = record { node = s.next; kind = node.kind }

  same_to : (m : ℕ) → names_to mid m ≡ names_to s m
  same_to m =
      let sum = names_to-with_new s node sound m in
      let none = ap (names_in m) empty in
      omega (arith, sum, none)

  same_each : (e m : ℕ) → names_at mid e m ≡ names_at s e m
  same_each e m =
      at s.next e (names_at mid e m ≡ names_at s e m)
      (λ here. subst (λ j. names_at mid j m ≡ names_at s j m) here
      (ap (λ o. names_in m (links_in o)) (node_at-with_new s s.next node) ∙ ap (names_in m) empty
      ∙ sym (ap (λ o. names_in m (links_in o)) free_next)))
      (λ apart. ap (λ o. names_in m (links_in o)) (node_at-with_new_other s e node apart))

  -- that many more names each node says that it has than lead to it
  counted_by : (more : ℕ → ℕ) → more s.next ≡ node.names → ((m : ℕ) → m ≢ s.next → more m ≡ 0) → (m : ℕ)
      → names_of (node_at mid m) ≡ names_to mid m + one m 1 + more m
  counted_by more here other m =
      at s.next m (names_of (node_at mid m) ≡ names_to mid m + one m 1 + more m)
      (λ e. subst (λ j. names_of (node_at mid j) ≡ names_to mid j + one j 1 + more j) e
      (let now = ap names_of (node_at-with_new s s.next node) in
      let root = one_other s.next 1 (λ e. root_there (sym e)) in
      omega (arith, now, here, root, same_to s.next, next_none)))
      (λ apart.
      let as_was = ap names_of (node_at-with_new_other s m node apart) in
      omega (arith, as_was, other m apart, same_to m, counted m))

  pub counted_mid : node.names ≡ 1 → (m : ℕ)
      → names_of (node_at mid m) ≡ names_to mid m + one m 1 + one s.next m
  counted_mid first =
      counted_by (one s.next) (one_same s.next s.next refl ∙ sym first)
      (λ m apart. one_other s.next m (λ e. apart (sym e)))

  pub home_mid : (c : ℕ) → Home mid c
  home_mid c =
      at s.next c (Home mid c)
      (λ e. subst (Home mid) e
      (λ dir d apart. omega (arith, same_each d s.next, names_at_most s d node s.next, next_none)))
      (λ apart dir d other.
      same_each d c
      ∙ home_from s linked c (sym (ap is_dir (kind_new_other s node sound c apart)) ∙ dir) d
      (λ same. other (same ∙ sym (ap parent_of (node_at-with_new_other s c node apart)))))

  pub top_mid : parent_of (node_at mid 1) ≡ 1
  top_mid = ap parent_of (node_at-with_new_other s 1 node root_there) ∙ linked.top

  -- TMPFILE: no name leads to it
  pub linked-nameless : node.names ≡ 0 → IsLinked mid
  linked-nameless none =
      linked_from mid good_mid top_mid
      (λ m. omega (arith, counted_by (λ m. 0) (sym none) (λ m apart. refl) m))
      home_mid

  -- MKDIR and the like: a name of a directory leads to it
  module _ (parent : ℕ) (above : Node) (is : node_at s parent ≡ Some above) (first : node.names ≡ 1)
      (lies : is_directory node.kind ≡ true → node.parent ≡ parent)
      (name : List ℕ) (dir : is_directory above.kind ≡ true) (named : above.names ≡ 0 → ⊥)
      (free : child_named above.children name ≡ None) where
    abbrev new : State
    new = made s parent name node

    parent_there : parent ≢ s.next
    parent_there e = none-some above (sym free_next ∙ ap (node_at s) (sym e) ∙ is)

    step_made : Step mid new parent none_lost (one s.next)
    step_made =
        step-with_child mid parent above (node_at-with_new_other s parent node parent_there ∙ is)
        good_mid name child_made dir named free (kind_new s node sound)

    home_new : (c : ℕ) → Home new c
    home_new c =
        at s.next c (Home new c)
        (λ e. subst (Home new) e
        (λ dir d apart.
        let is_one = sym (ap is_dir (step_made.kinds s.next ∙ kind_new s node sound)) ∙ dir in
        let other : d ≢ parent = λ same. apart (same ∙ sym (step_made.parents s.next
        ∙ ap parent_of (node_at-with_new s s.next node) ∙ lies is_one)) in
        let still = ap (λ o. names_in s.next (links_in o)) (step_made.nodes d other) in
        omega (arith, still, same_each d s.next, names_at_most s d node s.next, next_none)))
        (λ apart.
        step_home mid new parent none_lost (one s.next) step_made c
        (one_other s.next c (λ e. apart (sym e))) (home_mid c))

    pub linked-made : IsLinked new
    linked-made =
        linked_from new step_made.good (step_made.parents 1 ∙ top_mid)
        (λ m. omega (arith, step_made.names m, step_made.to m, counted_mid first m))
        home_new

-- ---- LINK

module _ (s : State) (linked_s : IsLinked s) (n : ℕ) (node : Node)
    (is : node_at s n ≡ Some node) (file : is_directory node.kind ≡ false)
    (parent : ℕ) (name : List ℕ) (above : Node) (is_above : node_at s parent ≡ Some above)
    (dir : is_directory above.kind ≡ true) (named : above.names ≡ 0 → ⊥)
    (free : child_named above.children name ≡ None) where
  abbrev child_linked : Child
  child_linked = record { node = n; kind = node.kind }

  abbrev mid_linked : State
  mid_linked = with_names s parent (leading name false (Some child_linked))

  good_s : Good s
  good_s = good_from s linked_s

  step_linked : Step s mid_linked parent none_lost (one n)
  step_linked =
      step-with_child s parent above is_above good_s name child_linked dir named free
      (ap kind_in is)

  n_apart : n ≢ parent
  n_apart e =
      let same = same_Some node above (sym is ∙ ap (node_at s) e ∙ is_above) in
      both_ways (is_directory node.kind) file
      (ap (λ (x : Node). is_directory x.kind) same ∙ dir)

  is_mid : node_at mid_linked n ≡ Some node
  is_mid = step_linked.nodes n n_apart ∙ is

  -- with the inodes that it counts for more
  abbrev counted_linked : State
  counted_linked = record mid_linked { inodes = mid_linked.inodes + min node.names 1 }

  pub linked-linked : IsLinked (change counted_linked n (linked s.now))
  linked-linked =
      let old = (good_s.nodes n node is).shape in
      let counted = counted_from s linked_s in
      subst IsLinked (sym (ap (changed counted_linked n (linked s.now)) is_mid))
      (linked_counted (with_node mid_linked n (linked s.now node)) (mid_linked.inodes + min node.names 1)
      (linked-with_node mid_linked n node (linked s.now node) is_mid refl refl refl step_linked.good
      (step_linked.parents 1 ∙ linked_s.top)
      (record {
        apart = old.apart;
        files = old.files;
        nameless = λ zero. absurd (omega (arith, zero));
        single = λ dir. absurd (both_ways (is_directory node.kind) file dir);
      })
      (let names = ap names_of is in
      omega (arith, names, counted n, step_linked.to n, one_same n n refl))
      (λ m apart.
      omega (
        arith,
        step_linked.names m,
        counted m,
        step_linked.to m,
        one_other n m (λ e. apart (sym e)),
      ))
      (λ c.
      at n c (Home mid_linked c)
      (λ e. subst (Home mid_linked) e
      (λ dir. absurd (both_ways (is_directory node.kind) file
      (sym (ap (λ o. is_dir (kind_in o)) is_mid) ∙ dir))))
      (λ apart.
      step_home s mid_linked parent none_lost (one n) step_linked c
      (one_other n c (λ e. apart (sym e))) (home_from s linked_s c)))))

-- ---- UNLINK, RMDIR

module _ (s : State) (sound : IsSound s) (linked_s : IsLinked s) (parent : ℕ) (name : List ℕ)
    (child : Child) (above : Node) (is : node_at s parent ≡ Some above)
    (found : child_named above.children name ≡ Some child)
    (target : Node) (is_target : node_at s child.node ≡ Some target)
    (empty : target.children.links ≡ []) where
  abbrev rest : State
  rest = with_names s parent (leading name true None)

  abbrev left : Node
  left = record target { names = target.names - 1; ctime = rest.now }

  step_out : Step s rest parent (one child.node) none_lost
  step_out = step-without_child s parent above is (good_from s linked_s) name child found

  target_apart : child.node ≢ parent
  target_apart e =
      let same = same_Some target above (sym is_target ∙ ap (node_at s) e ∙ is) in
      empty_finds above.children name child
      (ap (λ (x : Node). x.children.links) (sym same) ∙ empty) found

  is_rest : node_at rest child.node ≡ Some target
  is_rest = step_out.nodes child.node target_apart ∙ is_target

  pub linked-taken_out : IsLinked (taken_out s parent name child)
  linked-taken_out =
      let counted = counted_from s linked_s in
      let old = ((good_from s linked_s).nodes child.node target is_target).shape in
      let names = ap names_of is_target in
      subst IsLinked (sym (ap (unnamed_at rest child.node) is_rest))
      (linked-recounted rest child.node left (rest.inodes - min (target.names - 1) 1)
      (linked-settled rest child.node target left is_rest refl refl refl step_out.good
      (step_out.parents 1 ∙ linked_s.top)
      (shape_empty target.kind target.names target.children.links empty old)
      (omega (
        arith,
        names,
        counted child.node,
        step_out.to child.node,
        one_same child.node child.node refl,
      ))
      (λ m apart.
      omega (
        arith,
        step_out.names m,
        counted m,
        step_out.to m,
        one_other child.node m (λ e. apart (sym e)),
      ))
      (λ c.
      step_home s rest parent (one child.node) none_lost step_out c refl (home_from s linked_s c))
      (keeps-with_names s parent (leading name true None) sound).sound))
