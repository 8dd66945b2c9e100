-- The way from a directory up to the root, and what changes leave of it.
use Rattle.std.proofs.Common.{◌≡◌, ◌≢◌, ◌≤◌, ◌<◌, ◌+◌, ◌==◌, ◌&&◌, not, ℕ, zero, suc, Bool, true, false, cond, List, [], ◌∷◌, Option, Some, None, IfSome, is_eq, nat_cmp, find, option_map, refl, sym, ap, subst, ◌∙◌, arith, if◌then◌else◌, ◌⊎◌, inl, inr, ⊎_elim}
use Rattle.std.specs.List.{All, sum_by}
use Rattle.std.specs.BTreeMap.{is_at}
use Rattle.std.specs.Map.{lookup, values_of}
use Rattle.std.proofs.lemmas.Bool.{not-false, eqb-true, eqb-false, ne_eqb, cases_lt, cases_Bool, or_parts, and_cases}
use Rattle.std.proofs.lemmas.Cmp.{nat_cmp_total, tied_itself}
use Rattle.std.proofs.lemmas.List.Elements.{recursion_from_All, All-head, All-tail}
use Rattle.std.proofs.lemmas.List.Sums.{sum_by-cons}
use Rattle.std.proofs.lemmas.Map.Entries.{lookup_head, lookup_tail}
use Rattle.std.proofs.lemmas.Option.{none-some, same_Some}
use Rattle.fs_tree.specs.Children.{Link, is_directory, is_named}
use Rattle.laws_tree.specs.Laws.{Ascend, IsSound, IsLinked, IsNamed, IsRooted, Leads, above, names_in, names_of}
use Rattle.fs_tree.specs.Rename.{is_below, parent_of}
use Rattle.fs_tree.specs.State.{State, node_at, child_at}
use Rattle.fs_nodes.specs.declared.children.Child.{Child}
use Rattle.fs_nodes.specs.declared.node.Node.{Node}
use Rattle.fs_nodes.proofs.Finds.{every_found}
use Rattle.laws_tree.proofs.Held.{at}
use Rattle.fs_tree.proofs.Nodes.{is_at_other}
use Rattle.fs_tree.specs.Naming.{is_directory_at, is_nameless}
use Rattle.laws_tree.proofs.Changes.{child_of}

-- a directory that has a name
pub record IsPlaced (s : State) (n : ℕ) : Type 0 where
  pub node : Node
  pub is : node_at s n ≡ Some node
  pub directory : is_directory node.kind ≡ true
  pub named : 0 < node.names

-- a way up to the root
abbrev pub Goes : State → (number : ℕ) → Type 0
Goes s n = (k : ℕ) × (above s k n ≡ 1)

pub rooted_from : (s : State) → ((n : ℕ) → IsPlaced s n → Goes s n) → IsRooted s
rooted_from s goes n = by (node_at s n) refl
  where
    by : (o : Option Node) → node_at s n ≡ o
        → IfSome o (λ node. is_directory node.kind ≡ true → 0 < node.names → Goes s n)
    by None is = tt
    by (Some node) is = λ directory named. goes n (record {
      node = node;
      is = is;
      directory = directory;
      named = named;
    })

pub goes_from : (s : State) → IsRooted s → (n : ℕ) → IsPlaced s n → Goes s n
goes_from s rooted n d =
    subst
    (λ o. IfSome o (λ node. is_directory node.kind ≡ true → 0 < node.names → Goes s n))
    d.is (rooted n) d.directory d.named

pub placed_from : (s : State) (n : ℕ) → is_directory_at (node_at s n) ≡ true
    → is_nameless (node_at s n) ≡ false → IsPlaced s n
placed_from s n directory named = by (node_at s n) refl directory named
  where
    by : (o : Option Node) → node_at s n ≡ o → is_directory_at o ≡ true → is_nameless o ≡ false
        → IsPlaced s n
    by None is directory named = cc
    by (Some node) is directory named = record {
      node = node;
      is = is;
      directory = directory;
      named = by_zero (cases_lt 0 node.names) named;
    }
      where
        by_zero : (0 < node.names) ⊎ (node.names ≤ 0) → (node.names == 0) ≡ false → 0 < node.names
        by_zero (inl some) named = some
        by_zero (inr none) named = absurd (eqb-false node.names 0 named (omega (arith, none)))

-- ---- where a directory lies

some_link : (n : ℕ) (P : ℕ × Link → Type 0) (links : List (ℕ × Link)) → All P links
    → 0 < names_in n links → (link : ℕ × Link) × (P link) × (link.1.child.node ≡ n)
some_link n P [] all some = absurd (omega (arith, some))
some_link n P (link ∷ links) all some =
    by (link.1.child.node == n) refl (some_link n P links (All-tail P link links all))
  where
    by : (t : Bool) → (link.1.child.node == n) ≡ t
        → (0 < names_in n links → (l : ℕ × Link) × (P l) × (l.1.child.node ≡ n))
        → (l : ℕ × Link) × (P l) × (l.1.child.node ≡ n)
    by true is more = (link, All-head P link links all, eqb-true link.1.child.node n is)
    by false is more =
        let one : ℕ × Link → ℕ = λ l. cond (l.1.child.node == n) 1 0 in
        let here : one link ≡ 0 = ap (λ b. cond b 1 0) is in
        let step : names_in n (link ∷ links) ≡ one link + names_in n links =
        sum_by-cons one link links in
        more (omega (arith, some, here, step))

-- a directory that a name of a node is in
record Holds (n from : ℕ) (es : List (ℕ × Node)) : Type 0 where
  directory : ℕ
  node : Node
  is : lookup (is_at (nat_cmp directory)) es ≡ Some node
  some : 0 < names_in n node.children.links
  following : from ≤ directory

some_holds : (n from to : ℕ) (es : List (ℕ × Node)) → Ascend from es to
    → 0 < sum_by (λ node. names_in n node.children.links) (values_of es) → Holds n from es
some_holds n from to [] a some = absurd (omega (arith, some))
some_holds n from to (e ∷ es) a some =
    ⊎_elim
    (λ here. record {
      directory = e.0;
      node = e.1;
      is = lookup_head (is_at (nat_cmp e.0)) e es (ap is_eq (tied_itself nat_cmp_total e.0));
      some = here;
      following = a.0;
    })
    (λ none.
    let step = sum_by-cons (λ (node : Node). names_in n node.children.links) e.1 (values_of es) in
    let more = some_holds n (e.0 + 1) to es a.1 (omega (arith, some, none, step)) in
    record {
      directory = more.directory;
      node = more.node;
      is = lookup_tail (is_at (nat_cmp more.directory)) e es
          (is_at_other more.directory e.0 (omega (arith, more.following))) ∙ more.is;
      some = more.some;
      following = omega (arith, a.0, more.following);
    })
    (cases_lt 0 (names_in n e.1.children.links))

module _ (s : State) (linked : IsLinked s) where
  -- what holds of the names of a node
  named_at : (n : ℕ) (node : Node) → node_at s n ≡ Some node → IsNamed s n node
  named_at n node is = subst (λ o. IfSome o (IsNamed s n)) is (linked.named n)

  -- a node that holds names is a directory that has one
  holder : (n : ℕ) (node : Node) → node_at s n ≡ Some node → (node.children.links ≡ [] → ⊥)
      → IsPlaced s n
  holder n node is some = record {
    node = node;
    is = is;
    directory = ⊎_elim (λ yes. yes) (λ none. absurd (some ((named_at n node is).files none)))
        (cases_Bool (is_directory node.kind));
    named = ⊎_elim (λ named. named)
        (λ none. absurd (some ((named_at n node is).nameless (omega (arith, none)))))
        (cases_lt 0 node.names);
  }

  -- a directory that a name leads to lies where the name does
  lies_in : (d : ℕ) (child : Child) (n : ℕ) (node : Node) → child.node ≡ n
      → node_at s n ≡ Some node → is_directory node.kind ≡ true
      → Leads s d child (node_at s child.node) → node.parent ≡ d
  lies_in d child n node same is directory leads =
      (subst (λ o. Leads s d child o) (ap (node_at s) same ∙ is) leads).1 directory

  -- the directory above one is one too
  pub up : IsSound s → (n : ℕ) → IsPlaced s n → n ≢ 1 → IsPlaced s (parent_of (node_at s n))
  up sound n d apart =
      let one : Bool → ℕ = λ t. if t then 1 else 0 in
      let rest : one (n == 1) ≡ 0 = ap one (ne_eqb n 1 apart) in
      let names : names_of (node_at s n) ≡ d.node.names = ap names_of d.is in
      let held = some_holds n 1 s.next s.nodes sound.ordered
      (omega (arith, names, rest, linked.counted n, d.named)) in
      let above = named_at held.directory held.node held.is in
      let link = some_link n
      (λ link. Leads s held.directory link.1.child (node_at s link.1.child.node))
      held.node.children.links above.leads held.some in
      let lies = lies_in held.directory link.0.1.child n d.node link.2 d.is d.directory link.1 in
      subst (λ k. IsPlaced s k) (sym (ap parent_of d.is ∙ lies))
      (holder held.directory held.node held.is
      (λ none. let zero : names_in n held.node.children.links ≡ 0 = ap (names_in n) none in
      omega (arith, zero, held.some)))

-- ---- what a name leads to

record Named (links : List (ℕ × Link)) (name : List ℕ) (child : Child) : Type 0 where
  link : ℕ × Link
  is : find (is_named name) links ≡ Some link
  leads : link.1.child ≡ child

found_name : (links : List (ℕ × Link)) (name : List ℕ) (child : Child) (o : Option (ℕ × Link))
    → find (is_named name) links ≡ o → option_map (λ link. link.1.child) o ≡ Some child
    → Named links name child
found_name links name child None is found = absurd (none-some child found)
found_name links name child (Some link) is found = record {
  link = link;
  is = is;
  leads = same_Some link.1.child child found;
}

module _ (s : State) (linked : IsLinked s) (d : ℕ) (name : List ℕ) (child : Child) where
  -- what is in a directory makes it one that has a name
  pub names_place : child_at s d name ≡ Some child → IsPlaced s d
  names_place found = by (node_at s d) refl found
    where
      by : (o : Option Node) → node_at s d ≡ o → child_of o name ≡ Some child → IsPlaced s d
      by None is found = absurd (none-some child found)
      by (Some node) is found =
          let named = found_name node.children.links name child
          (find (is_named name) node.children.links) refl found in
          holder s linked d node is
          (λ none. none-some named.link (sym (ap (find (is_named name)) none) ∙ named.is))

  -- and a directory there lies in it
  pub name_leads : child_at s d name ≡ Some child → IsPlaced s child.node
      → parent_of (node_at s child.node) ≡ d
  name_leads found there = by (node_at s d) refl found
    where
      by : (o : Option Node) → node_at s d ≡ o → child_of o name ≡ Some child
          → parent_of (node_at s child.node) ≡ d
      by None is found = absurd (none-some child found)
      by (Some node) is found =
          let links = node.children.links in
          let named = found_name links name child (find (is_named name) links) refl found in
          let Holds : ℕ × Link → Type 0 =
          λ link. Leads s d link.1.child (node_at s link.1.child.node) in
          let leads = every_found Holds (is_named name) links named.link
          (recursion_from_All Holds links (named_at s linked d node is).leads) named.is in
          ap parent_of there.is
          ∙ lies_in s linked d named.link.1.child child.node there.node
          (ap (λ c. c.node) named.leads) there.is there.directory leads

-- ---- ways

module _ (s new : State) (sound : IsSound s) (linked : IsLinked s) where
  further : (n : ℕ) → parent_of (node_at new n) ≡ parent_of (node_at s n)
      → Goes new (parent_of (node_at s n)) → Goes new n
  further n same g = (suc g.0, ap (above new g.0) same ∙ g.1)

  -- a way goes on where each directory lies where it lay, or else has a way
  ways : ((m : ℕ) → IsPlaced s m → m ≢ 1
      → (parent_of (node_at new m) ≡ parent_of (node_at s m)) ⊎ Goes new m)
      → (k n : ℕ) → IsPlaced s n → above s k n ≡ 1 → Goes new n
  ways keeps zero n d e = (0, e)
  ways keeps (suc k) n d e =
      at 1 n (Goes new n) (λ is. (0, sym is))
      (λ apart. ⊎_elim
      (λ same. further n same
      (ways keeps k (parent_of (node_at s n)) (up s linked sound n d apart) e))
      (λ goes. goes)
      (keeps n d apart))

  pub rooted_ways : IsRooted s → ((m : ℕ) → IsPlaced new m → IsPlaced s m ⊎ Goes new m)
      → ((m : ℕ) → IsPlaced s m → m ≢ 1
      → (parent_of (node_at new m) ≡ parent_of (node_at s m)) ⊎ Goes new m)
      → IsRooted new
  rooted_ways rooted from keeps =
      rooted_from new
      (λ n d. ⊎_elim
      (λ was. let way = goes_from s rooted n was in ways keeps way.0 n was way.1)
      (λ goes. goes)
      (from n d))

  pub goes_still : IsRooted s
      → ((m : ℕ) → IsPlaced s m → m ≢ 1
      → (parent_of (node_at new m) ≡ parent_of (node_at s m)) ⊎ Goes new m)
      → (n : ℕ) → IsPlaced s n → Goes new n
  goes_still rooted keeps n d = let way = goes_from s rooted n d in ways keeps way.0 n d way.1

-- a way up to the root that does not meet a node
abbrev pub Avoids : State → (node steps number : ℕ) → Type 0
Avoids s c zero n = n ≡ 1
Avoids s c (suc k) n = (n ≢ c) × Avoids s c k (parent_of (node_at s n))

pub avoids_from : (s : State) (c k n : ℕ) → is_below s k c n ≡ false
    → (j : ℕ) × Avoids s c j n
avoids_from s c zero n not_below = cc
avoids_from s c (suc k) n not_below =
    let parts = or_parts (n == c) (not (n == 1) && is_below s k c (parent_of (node_at s n)))
    not_below in
    ⊎_elim
    (λ root. (0, eqb-true n 1 (not-false (n == 1) root)))
    (λ rest. let way = avoids_from s c k (parent_of (node_at s n)) rest in
    (suc way.0, (eqb-false n c parts.0, way.1)))
    (and_cases (not (n == 1)) (is_below s k c (parent_of (node_at s n))) parts.1)

-- such a way is there still, or a shorter one, where each directory lies where it lay or in the root
module _ (s new : State) (sound : IsSound s) (linked : IsLinked s) (c : ℕ)
    (parents : (m : ℕ) → IsPlaced s m
    → (parent_of (node_at new m) ≡ parent_of (node_at s m)) ⊎ (parent_of (node_at new m) ≡ 1)) where
  pub avoids_still : (k n : ℕ) → IsPlaced s n → Avoids s c k n → (j : ℕ) × Avoids new c j n
  avoids_still zero n there way = (0, way)
  avoids_still (suc k) n there way =
      at 1 n ((j : ℕ) × Avoids new c j n) (λ is. (0, sym is))
      (λ apart. ⊎_elim
      (λ same.
      let rest = avoids_still k (parent_of (node_at s n)) (up s linked sound n there apart) way.1 in
      (suc rest.0, (way.0, subst (λ m. Avoids new c rest.0 m) (sym same) rest.1)))
      (λ root. (1, (way.0, root)))
      (parents n there))

-- A way from a directory that avoids a node goes on, where all the others that it meets lie where they
-- lay, but for those that lay in this very directory: a way that meets one of these has a shorter one.
module _ (s new : State) (sound : IsSound s) (linked : IsLinked s) (c d : ℕ)
    (turns : (m : ℕ) → IsPlaced s m → m ≢ 1 → m ≢ c
    → (parent_of (node_at new m) ≡ parent_of (node_at s m)) ⊎ (parent_of (node_at s m) ≡ d)) where
  abbrev Shorter : ℕ → Type 0
  Shorter k = (j : ℕ) × (j < k) × Avoids s c j d

  scan : (k n : ℕ) → IsPlaced s n → Avoids s c k n → Goes new n ⊎ Shorter k
  scan zero n there way = inl (0, way)
  scan (suc k) n there way =
      at 1 n (Goes new n ⊎ Shorter (suc k)) (λ is. inl (0, sym is))
      (λ apart. ⊎_elim
      (λ same. ⊎_elim
      (λ goes. inl (further s new sound linked n same goes))
      (λ shorter. inr (shorter.0, omega (arith, shorter.1), shorter.2))
      (scan k (parent_of (node_at s n)) (up s linked sound n there apart) way.1))
      (λ back. inr (k, omega arith, subst (λ m. Avoids s c k m) back way.1))
      (turns n there apart way.0))

  pub goes_on : (bound k : ℕ) → k < bound → IsPlaced s d → Avoids s c k d → Goes new d
  goes_on zero k less there way = absurd (omega (arith, less))
  goes_on (suc bound) k less there way =
      ⊎_elim (λ goes. goes)
      (λ shorter. goes_on bound shorter.0 (omega (arith, less, shorter.1)) there shorter.2)
      (scan k d there way)
