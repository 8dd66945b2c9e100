-- Names that are added, taken out or lead elsewhere, step by step.
use Rattle.std.proofs.Common.{◌≡◌, ◌≢◌, ◌+◌, ◌-◌, ◌≤◌, ◌==◌, ◌&&◌, if◌then◌else◌, ℕ, Bool, true, false, not, List, map, filter, find, Option, Some, None, is_some, option_map, refl, sym, ap, ◌∙◌, subst, arith}
use Rattle.std.specs.Option.{option_map_or}
use Rattle.std.proofs.lemmas.Bool.{both_ways, false≢true, and_parts, eqb-true}
use Rattle.std.proofs.lemmas.Option.{none-some, same_Some}
use Rattle.vfs_files.proofs.Indexes.{mapped_none}
use Rattle.fs_tree.specs.Children.{Link, Children, is_directory, is_named, child_named, leading, relinked}
use Rattle.laws_tree.specs.Laws.{names_in, names_to, names_of, IsSound, IsLinked}
use Rattle.fs_tree.specs.Rename.{parent_of, moved_into}
use Rattle.fs_tree.specs.State.{State, node_at, with_node, without_node, settled, lead}
use Rattle.fs_nodes.specs.declared.children.Child.{Child}
use Rattle.fs_nodes.specs.declared.node.Node.{Node}
use Rattle.fs_nodes.proofs.Finds.{every_filter}
use Rattle.laws_tree.proofs.Held.{at}
use Rattle.laws_tree.proofs.NamesIn.{one, names_in-cons, names_in-filter, names_in-relinked, apart_more, apart_filter, apart_relinked, every_relinked}
use Rattle.fs_tree.proofs.Nodes.{node_at-with_node, node_at-with_node_other, node_at-without_node_other, changed, with_names}
use Rattle.laws_tree.proofs.Shapes.{Shape, Fits, AllFit, Good, good_from, counted_from, home_from, kinds-with_node, good-with_node, kind_left, good-without_node, Counted, Home, linked_from}
use Rattle.laws_tree.proofs.Tables.{links_in, names_at, kind_in, kind_at, is_dir, names_to-with_node, names_to-without_node, names_at-without_node, gone_number}

-- what is seen of a node is the same after it was changed
module _ (s : State) (k : ℕ) (was node : Node) (is : node_at s k ≡ Some was) {X : Type 0}
    (see : Option Node → X) (same : see (Some node) ≡ see (Some was)) where
  pub seen-with_node : (m : ℕ) → see (node_at (with_node s k node) m) ≡ see (node_at s m)
  seen-with_node m =
      at k m (see (node_at (with_node s k node) m) ≡ see (node_at s m))
      (λ e. subst (λ j. see (node_at (with_node s k node) j) ≡ see (node_at s j)) e
      (ap see (node_at-with_node s k k node was is) ∙ same ∙ sym (ap see is)))
      (λ apart. ap see (node_at-with_node_other s k m node apart))

-- ---- the names of one directory

-- A directory's names change: those that lead to a node are fewer by those that were lost, and more
-- by those that were gained.
pub record Step (s t : State) (d : ℕ) (lost gained : ℕ → ℕ) : Type 0 where
  pub good : Good t
  pub kinds : (m : ℕ) → kind_at t m ≡ kind_at s m
  pub names : (m : ℕ) → names_of (node_at t m) ≡ names_of (node_at s m)
  pub parents : (m : ℕ) → parent_of (node_at t m) ≡ parent_of (node_at s m)
  pub to : (m : ℕ) → names_to t m + lost m ≡ names_to s m + gained m
  pub here : (m : ℕ) → names_at t d m + lost m ≡ names_at s d m + gained m
  pub nodes : (e : ℕ) → e ≢ d → node_at t e ≡ node_at s e

module _ (s : State) (d : ℕ) (node : Node) (is : node_at s d ≡ Some node) (good : Good s)
    (f : Children → Children) (lost gained : ℕ → ℕ)
    (sums : (m : ℕ) → names_in m (f node.children).links + lost m
    ≡ names_in m node.children.links + gained m)
    (shape : Shape node.kind node.names (f node.children).links)
    (fits : AllFit s (f node.children).links) where
  abbrev named_anew : Node
  named_anew = record node { children = f node.children; mtime = s.now; ctime = s.now }

  step-with_node : Step s (with_node s d named_anew) d lost gained
  step-with_node = record {
    good = good-with_node s d node named_anew is refl good shape fits;
    kinds = kinds-with_node s d node named_anew is refl;
    names = seen-with_node s d node named_anew is names_of refl;
    parents = seen-with_node s d node named_anew is parent_of refl;
    to = λ m. omega (arith, names_to-with_node s d node named_anew is m, sums m);
    here = λ m.
        let before = ap (λ o. names_in m (links_in o)) is in
        let after = ap (λ o. names_in m (links_in o))
        (node_at-with_node s d d named_anew node is) in
        omega (arith, before, after, sums m);
    nodes = λ e apart. node_at-with_node_other s d e named_anew apart;
  }

  pub step-with_names : Step s (with_names s d f) d lost gained
  step-with_names =
      subst (λ t. Step s t d lost gained)
      (sym (ap (changed s d
      (λ (x : Node). record x { children = f x.children; mtime = s.now; ctime = s.now })) is))
      step-with_node

-- the link of a name
pub found_link : (o : Option (ℕ × Link)) (child : Child)
    → option_map (λ (link : ℕ × Link). link.1.child) o ≡ Some child
    → (e : ℕ × Link) × (o ≡ Some e) × (e.1.child ≡ child)
found_link None child is = absurd (none-some child is)
found_link (Some e) child is = (e, refl, same_Some e.1.child child is)

abbrev pub none_lost : ℕ → ℕ
none_lost m = 0

-- the name that leads there, if it does
abbrev pub one_of : Option Child → ℕ → ℕ
one_of o m = option_map_or (λ (c : Child). one c.node m) o 0

module _ (s : State) (d : ℕ) (node : Node) (is : node_at s d ≡ Some node) (good : Good s)
    (name : List ℕ) (child : Child) where
  shape_before : Shape node.kind node.names node.children.links
  shape_before = (good.nodes d node is).shape

  fits_before : AllFit s node.children.links
  fits_before = (good.nodes d node is).fits

  -- one name more
  pub step-with_child : is_directory node.kind ≡ true → (node.names ≡ 0 → ⊥)
      → child_named node.children name ≡ None → Fits s child
      → Step s (with_names s d (leading name false (Some child))) d none_lost (one child.node)
  step-with_child dir named free fits =
      let links = node.children.links in
      let new : ℕ × Link = (node.children.next, record { name = name; child = child }) in
      step-with_names s d node is good (leading name false (Some child)) none_lost (one child.node)
      (λ m. omega (arith, names_in-cons m new links))
      (record {
        apart = apart_more links new shape_before.apart
            (mapped_none (λ (link : ℕ × Link). link.1.child) (find (is_named name) links) free);
        files = λ file. absurd (both_ways (is_directory node.kind) file dir);
        nameless = λ zero. absurd (named zero);
        single = shape_before.single;
      })
      (fits, fits_before)

  -- one name less
  pub step-without_child : child_named node.children name ≡ Some child
      → Step s (with_names s d (leading name true None)) d (one child.node) none_lost
  step-without_child found =
      let links = node.children.links in
      let rest = filter (λ link. not (is_named name link)) in
      let e = found_link (find (is_named name) links) child found in
      step-with_names s d node is good (leading name true None) (one child.node) none_lost
      (λ m.
      let less = names_in-filter name m links e.0 shape_before.apart e.1 in
      let same = ap (λ (c : Child). one c.node m) e.2 in
      omega (arith, less, same))
      (record {
        apart = apart_filter (λ link. not (is_named name link)) links shape_before.apart;
        files = λ file. ap rest (shape_before.files file);
        nameless = λ zero. ap rest (shape_before.nameless zero);
        single = shape_before.single;
      })
      (every_filter (λ (link : ℕ × Link). Fits s link.1.child) (λ link. not (is_named name link))
      links fits_before)

  -- a name that leads elsewhere
  pub step-with_other_child : (old : Child) → child_named node.children name ≡ Some old
      → Fits s child
      → Step s (with_names s d (leading name true (Some child))) d (one old.node)
      (one child.node)
  step-with_other_child old found fits =
      let links = node.children.links in
      let e = found_link (find (is_named name) links) old found in
      step-with_names s d node is good (leading name true (Some child)) (one old.node)
      (one child.node)
      (λ m.
      let sum = names_in-relinked name child m links e.0 shape_before.apart e.1 in
      let same = ap (λ (c : Child). one c.node m) e.2 in
      omega (arith, sum, same))
      (record {
        apart = apart_relinked name child links shape_before.apart;
        files = λ file. ap (map (relinked name child)) (shape_before.files file);
        nameless = λ zero. ap (map (relinked name child)) (shape_before.nameless zero);
        single = shape_before.single;
      })
      (every_relinked name (Fits s) child fits links fits_before)

  -- a name, which led there or nowhere, leads to a node
  pub step-into : is_directory node.kind ≡ true → (node.names ≡ 0 → ⊥) → Fits s child
      → (was : Option Child) → child_named node.children name ≡ was
      → Step s (lead s d name (is_some was) (Some child)) d (one_of was) (one child.node)
  step-into dir named fits None free = step-with_child dir named free fits
  step-into dir named fits (Some old) found = step-with_other_child old found fits

-- a name that led to a node leads there, or nowhere
pub step-from : (s : State) (d : ℕ) (node : Node) → node_at s d ≡ Some node → Good s
    → (name : List ℕ) (child : Child) → child_named node.children name ≡ Some child
    → (now : Option Child) → ((new : Child) → now ≡ Some new → Fits s new)
    → Step s (lead s d name true now) d (one child.node) (one_of now)
step-from s d node is good name child found None fits =
    step-without_child s d node is good name child found
step-from s d node is good name child found (Some new) fits =
    step-with_other_child s d node is good name new child found (fits new refl)

-- a node to which no name was gained has no more names in any directory
module _ (s t : State) (d : ℕ) (lost gained : ℕ → ℕ) (step : Step s t d lost gained) (c : ℕ)
    (none : gained c ≡ 0) where
  pub step_fewer : (e : ℕ) → names_at t e c ≤ names_at s e c
  step_fewer e =
      at d e (names_at t e c ≤ names_at s e c)
      (λ same. subst (λ k. names_at t k c ≤ names_at s k c) same
      (omega (arith, step.here c, none)))
      (λ apart. omega (arith, ap (λ o. names_in c (links_in o)) (step.nodes e apart)))

  pub step_home : Home s c → Home t c
  step_home home dir e apart =
      let before = home (sym (ap is_dir (step.kinds c)) ∙ dir) e
      (λ same. apart (same ∙ sym (step.parents c))) in
      omega (arith, before, step_fewer e)

-- ---- a node that lies elsewhere

pub record Moves (s t : State) (n p : ℕ) : Type 0 where
  pub good : Good t
  pub kinds : (m : ℕ) → kind_at t m ≡ kind_at s m
  pub names : (m : ℕ) → names_of (node_at t m) ≡ names_of (node_at s m)
  pub to : (m : ℕ) → names_to t m ≡ names_to s m
  pub each : (e m : ℕ) → names_at t e m ≡ names_at s e m
  pub here : parent_of (node_at t n) ≡ p
  pub nodes : (m : ℕ) → m ≢ n → node_at t m ≡ node_at s m

module _ (s : State) (n p : ℕ) (was : Node) (is : node_at s n ≡ Some was) (good : Good s) where
  abbrev laid_anew : Node
  laid_anew = record was { parent = p; ctime = s.now }

  moves-with_node : Moves s (with_node s n laid_anew) n p
  moves-with_node = record {
    good = good-with_node s n was laid_anew is refl good (good.nodes n was is).shape
        (good.nodes n was is).fits;
    kinds = kinds-with_node s n was laid_anew is refl;
    names = seen-with_node s n was laid_anew is names_of refl;
    to = λ m. omega (arith, names_to-with_node s n was laid_anew is m);
    each = λ e m. seen-with_node s n was laid_anew is (λ o. names_in m (links_in o)) refl e;
    here = ap parent_of (node_at-with_node s n n laid_anew was is);
    nodes = λ m apart. node_at-with_node_other s n m laid_anew apart;
  }

  pub moves : Moves s (moved_into s n p) n p
  moves =
      subst (λ t. Moves s t n p)
      (sym (ap (changed s n (λ (x : Node). record x { parent = p; ctime = s.now })) is))
      moves-with_node

-- ---- how many inodes are counted

pub linked_counted : (s : State) (inodes : ℕ) → IsLinked s → IsLinked (record s { inodes = inodes })
linked_counted s inodes linked =
    let good = good_from s linked in
    linked_from (record s { inodes = inodes })
    (record {
      root = good.root;
      nodes = λ n node is.
          let it = good.nodes n node is in record { shape = it.shape; fits = it.fits };
    })
    linked.top (counted_from s linked) (home_from s linked)

-- ---- a node that may go

module _ (s : State) (k : ℕ) (was node : Node) (is : node_at s k ≡ Some was)
    (kind : node.kind ≡ was.kind) (children : node.children ≡ was.children)
    (parent : node.parent ≡ was.parent)
    (good : Good s) (top : parent_of (node_at s 1) ≡ 1)
    (shape : Shape node.kind node.names node.children.links)
    (count : node.names ≡ names_to s k + one k 1)
    (others : (m : ℕ) → m ≢ k → names_of (node_at s m) ≡ names_to s m + one m 1)
    (home : (c : ℕ) → Home s c) where
  pub linked-with_node : IsLinked (with_node s k node)
  linked-with_node =
      linked_from (with_node s k node)
      (good-with_node s k was node is kind good shape
      (subst (λ (c : Children). AllFit s c.links) (sym children) (good.nodes k was is).fits))
      (seen-with_node s k was node is parent_of parent 1 ∙ top) counted homes
    where
      same_to : (m : ℕ) → names_to (with_node s k node) m ≡ names_to s m
      same_to m =
          let sum = names_to-with_node s k was node is m in
          let same = ap (λ (c : Children). names_in m c.links) children in
          omega (arith, sum, same)

      counted : Counted (with_node s k node)
      counted m =
          at k m (names_of (node_at (with_node s k node) m)
          ≡ names_to (with_node s k node) m + one m 1)
          (λ e. subst (λ j. names_of (node_at (with_node s k node) j)
          ≡ names_to (with_node s k node) j + one j 1) e
          (let here = ap names_of (node_at-with_node s k k node was is) in
          omega (arith, here, count, same_to k)))
          (λ apart.
          let there = ap names_of (node_at-with_node_other s k m node apart) in
          omega (arith, there, others m apart, same_to m))

      homes : (c : ℕ) → Home (with_node s k node) c
      homes c dir d apart =
          seen-with_node s k was node is (λ o. names_in c (links_in o))
          (ap (λ (x : Children). names_in c x.links) children) d
          ∙ home c (sym (ap is_dir (kinds-with_node s k was node is kind c)) ∙ dir) d
          (λ e. apart (e ∙ sym (seen-with_node s k was node is parent_of parent c)))

  linked-without_node : IsSound s → node.names ≡ 0 → IsLinked (without_node s k node)
  linked-without_node sound zero =
      linked_from (without_node s k node)
      (good-without_node s k node sound (omega (arith, count, zero)) good) still counted homes
    where
      still : parent_of (node_at (without_node s k node) 1) ≡ 1
      still =
          at k 1 (parent_of (node_at (without_node s k node) 1) ≡ 1)
          (λ e. subst (λ j. parent_of (node_at (without_node s k node) j) ≡ 1) e
          (ap parent_of (gone_number s k node sound)))
          (λ apart. ap parent_of (node_at-without_node_other s k 1 node apart) ∙ top)

      empty : (m : ℕ) → names_at s k m ≡ 0
      empty m =
          ap (λ o. names_in m (links_in o)) is
          ∙ ap (λ (x : Children). names_in m x.links) (sym children)
          ∙ ap (names_in m) (shape.nameless zero)

      counted : Counted (without_node s k node)
      counted m =
          at k m (names_of (node_at (without_node s k node) m)
          ≡ names_to (without_node s k node) m + one m 1)
          (λ e. subst (λ j. names_of (node_at (without_node s k node) j)
          ≡ names_to (without_node s k node) j + one j 1) e
          (let here = ap names_of (gone_number s k node sound) in
          omega (arith, here, count, zero, names_to-without_node s k node k)))
          (λ apart.
          let there = ap names_of (node_at-without_node_other s k m node apart) in
          omega (arith, there, others m apart, names_to-without_node s k node m, empty m))

      homes : (c : ℕ) → Home (without_node s k node) c
      homes c dir d apart =
          at k c (names_at (without_node s k node) d c ≡ 0)
          (λ e. absurd (false≢true (sym (ap (λ o. is_dir (kind_in o)) (gone_number s k node sound))
          ∙ ap (λ j. is_dir (kind_at (without_node s k node) j)) e ∙ dir)))
          (λ other.
          at k d (names_at (without_node s k node) d c ≡ 0)
          (λ e. subst (λ j. names_at (without_node s k node) j c ≡ 0) e
          (ap (λ o. names_in c (links_in o)) (gone_number s k node sound)))
          (λ another.
          names_at-without_node s k node d c another
          ∙ home c (sym (ap is_dir (kind_left s k node sound c other)) ∙ dir) d
          (λ e. apart (e ∙ sym (ap parent_of (node_at-without_node_other s k c node other))))))

  pub linked-settled : IsSound s → IsLinked (settled s k node)
  linked-settled sound = by (node.names == 0 && node.lookups == 0) refl
    where
      by : (t : Bool) → (node.names == 0 && node.lookups == 0) ≡ t
          → IsLinked (if t then without_node s k node else with_node s k node)
      by true both =
          linked-without_node sound
          (eqb-true node.names 0 (and_parts (node.names == 0) (node.lookups == 0) both).0)
      by false both = linked-with_node

-- however many inodes are counted
pub linked-recounted : (s : State) (k : ℕ) (node : Node) (inodes : ℕ) → IsLinked (settled s k node)
    → IsLinked (settled (record s { inodes = inodes }) k node)
linked-recounted s k node inodes = by (node.names == 0 && node.lookups == 0)
  where
    by : (t : Bool) → IsLinked (if t then without_node s k node else with_node s k node)
        → IsLinked (if t then without_node (record s { inodes = inodes }) k node
        else with_node (record s { inodes = inodes }) k node)
    by true linked = linked_counted (without_node s k node) (inodes - 1) linked
    by false linked = linked_counted (with_node s k node) inodes linked
