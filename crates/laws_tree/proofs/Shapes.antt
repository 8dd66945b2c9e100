-- What holds of the names of each node, also in the midst of a change.
use Rattle.std.proofs.Common.{◌≡◌, ◌≢◌, ◌+◌, ◌<◌, ◌≤◌, ℕ, true, false, List, [], ◌∷◌, Option, Some, None, IfSome, refl, sym, ap, ◌∙◌, subst, arith}
use Rattle.std.specs.List.{AllByRecursion}
use Rattle.std.proofs.lemmas.List.Elements.{All-from_recursion, recursion_from_All}
use Rattle.std.proofs.lemmas.Option.{none-some, same_Some}
use Rattle.fs_tree.specs.Children.{Link, is_directory}
use Rattle.laws_tree.specs.Laws.{names_in, names_to, names_of, IsSound, Leads, IsNamed, IsLinked}
use Rattle.fs_tree.specs.Rename.{parent_of}
use Rattle.fs_tree.specs.State.{State, node_at, with_node, with_new, without_node}
use Rattle.fs_nodes.specs.declared.children.Child.{Child}
use Rattle.fs_nodes.specs.declared.kind.Kind.{Kind}
use Rattle.fs_nodes.specs.declared.node.Node.{Node}
use Rattle.fs_nodes.proofs.Finds.{every_weaker}
use Rattle.laws_tree.proofs.Held.{at}
use Rattle.laws_tree.proofs.NamesIn.{one, one_same, one_other, root_one, names_in-cons, Apart, apart_from, are_apart}
use Rattle.fs_tree.proofs.Nodes.{node_at-with_node, node_at-with_node_other, node_at-without_node_other, node_at-with_new, node_at-with_new_other}
use Rattle.laws_tree.proofs.Tables.{links_in, names_at, kind_in, kind_at, is_dir, names_at_most, free_number, gone_number}

-- the names that a node of this kind and of that many names holds
pub record Shape (kind : Kind) (names : ℕ) (links : List (ℕ × Link)) : Type 0 where
  pub apart : Apart links
  pub files : is_directory kind ≡ false → links ≡ []
  pub nameless : names ≡ 0 → links ≡ []
  pub single : is_directory kind ≡ true → names ≤ 1

-- a node of this kind is there
abbrev pub Fits : State → Child → Type 0
Fits s child = kind_at s child.node ≡ Some child.kind

abbrev pub AllFit : State → List (ℕ × Link) → Type 0
AllFit s links = AllByRecursion (λ (link : ℕ × Link). Fits s link.1.child) links

pub record IsGood (s : State) (node : Node) : Type 0 where
  pub shape : Shape node.kind node.names node.children.links
  pub fits : AllFit s node.children.links

pub record Good (s : State) : Type 0 where
  pub root : (kind : Kind) → kind_at s 1 ≡ Some kind → is_directory kind ≡ true
  pub nodes : (n : ℕ) (node : Node) → node_at s n ≡ Some node → IsGood s node

-- ---- a node that is changed

module _ (s : State) (k : ℕ) (was node : Node) (is : node_at s k ≡ Some was)
    (kind : node.kind ≡ was.kind) where
  pub kinds-with_node : (m : ℕ) → kind_at (with_node s k node) m ≡ kind_at s m
  kinds-with_node m =
      at k m (kind_at (with_node s k node) m ≡ kind_at s m)
      (λ e. subst (λ j. kind_at (with_node s k node) j ≡ kind_at s j) e
      (ap kind_in (node_at-with_node s k k node was is) ∙ ap (λ (x : Kind). Some x) kind
      ∙ sym (ap kind_in is)))
      (λ apart. ap kind_in (node_at-with_node_other s k m node apart))

  fit_still : (links : List (ℕ × Link)) → AllFit s links → AllFit (with_node s k node) links
  fit_still links all =
      every_weaker (λ (link : ℕ × Link). Fits s link.1.child)
      (λ (link : ℕ × Link). Fits (with_node s k node) link.1.child)
      (λ link fits. kinds-with_node link.1.child.node ∙ fits) links all

  pub good-with_node : Good s → Shape node.kind node.names node.children.links
      → AllFit s node.children.links → Good (with_node s k node)
  good-with_node good shape fits = record {
    root = λ x e. good.root x (sym (kinds-with_node 1) ∙ e);
    nodes = λ m other e. at k m (IsGood (with_node s k node) other)
        (λ here.
        let same : node ≡ other = same_Some node other (sym (node_at-with_node s k k node was is)
        ∙ ap (node_at (with_node s k node)) here ∙ e) in
        subst (IsGood (with_node s k node)) same
        (record { shape = shape; fits = fit_still node.children.links fits }))
        (λ apart.
        let old = good.nodes m other (sym (node_at-with_node_other s k m node apart) ∙ e) in
        record { shape = old.shape; fits = fit_still other.children.links old.fits });
  }

-- ---- a node that is new

module _ (s : State) (node : Node) (sound : IsSound s) where
  pub kind_new : kind_at (with_new s node) s.next ≡ Some node.kind
  kind_new = ap kind_in (node_at-with_new s s.next node)

  pub kind_new_other : (m : ℕ) → m ≢ s.next → kind_at (with_new s node) m ≡ kind_at s m
  kind_new_other m apart = ap kind_in (node_at-with_new_other s m node apart)

  fit_beside : (links : List (ℕ × Link)) → AllFit s links → AllFit (with_new s node) links
  fit_beside links all =
      every_weaker (λ (link : ℕ × Link). Fits s link.1.child)
      (λ (link : ℕ × Link). Fits (with_new s node) link.1.child)
      (λ link fits. kind_new_other link.1.child.node
      (λ e. none-some link.1.child.kind
      (sym (ap kind_in (free_number s node sound)) ∙ ap (kind_at s) (sym e) ∙ fits)) ∙ fits)
      links all

  pub good-with_new : 1 ≢ s.next → Good s → Shape node.kind node.names node.children.links
      → AllFit s node.children.links → Good (with_new s node)
  good-with_new there good shape fits = record {
    root = λ x e. good.root x (sym (kind_new_other 1 there) ∙ e);
    nodes = λ m other e. at s.next m (IsGood (with_new s node) other)
        (λ here.
        let same : node ≡ other = same_Some node other (sym (node_at-with_new s s.next node)
        ∙ ap (node_at (with_new s node)) here ∙ e) in
        subst (IsGood (with_new s node)) same
        (record { shape = shape; fits = fit_beside node.children.links fits }))
        (λ apart.
        let old = good.nodes m other (sym (node_at-with_new_other s m node apart) ∙ e) in
        record { shape = old.shape; fits = fit_beside other.children.links old.fits });
  }

-- ---- a node that is taken out

none_lead : (k : ℕ) (links : List (ℕ × Link)) → names_in k links ≡ 0
    → AllByRecursion (λ (link : ℕ × Link). link.1.child.node ≢ k) links
none_lead k [] none = tt
none_lead k (x ∷ xs) none = (
  λ e. let here = one_same x.1.child.node k e in
      let more = names_in-cons k x xs in omega (arith, none, here, more),
  none_lead k xs (let more = names_in-cons k x xs in omega (arith, none, more)),
)

every_both : {X : Type 0} (P Q R : X → Type 0) → ((x : X) → P x → Q x → R x) → (xs : List X)
    → AllByRecursion P xs → AllByRecursion Q xs → AllByRecursion R xs
every_both P Q R so [] all more = tt
every_both P Q R so (x ∷ xs) all more =
    (so x all.0 more.0, every_both P Q R so xs all.1 more.1)

module _ (s : State) (k : ℕ) (node : Node) (sound : IsSound s) where
  pub kind_left : (m : ℕ) → m ≢ k → kind_at (without_node s k node) m ≡ kind_at s m
  kind_left m apart = ap kind_in (node_at-without_node_other s k m node apart)

  pub good-without_node : names_to s k ≡ 0 → Good s → Good (without_node s k node)
  good-without_node none good = record {
    root = λ x e. at k 1 (is_directory x ≡ true)
        (λ here. absurd (none-some x (sym (ap kind_in (gone_number s k node sound))
        ∙ ap (kind_at (without_node s k node)) here ∙ e)))
        (λ apart. good.root x (sym (kind_left 1 apart) ∙ e));
    nodes = λ m other e. at k m (IsGood (without_node s k node) other)
        (λ here. absurd (none-some other (sym (gone_number s k node sound)
        ∙ ap (node_at (without_node s k node)) here ∙ e)))
        (λ apart.
        let is = sym (node_at-without_node_other s k m node apart) ∙ e in
        let old = good.nodes m other is in
        let few : names_in k other.children.links ≡ 0 =
        omega (arith, none, names_at_most s m node k, ap (λ o. names_in k (links_in o)) is) in
        record {
          shape = old.shape;
          fits = every_both (λ (link : ℕ × Link). Fits s link.1.child)
              (λ (link : ℕ × Link). link.1.child.node ≢ k)
              (λ (link : ℕ × Link). Fits (without_node s k node) link.1.child)
              (λ link fits other. kind_left link.1.child.node other ∙ fits) other.children.links
              old.fits (none_lead k other.children.links few);
        });
  }

-- ---- what this says together

-- as many names lead to each node as it says
abbrev pub Counted : State → Type 0
Counted s = (n : ℕ) → names_of (node_at s n) ≡ names_to s n + one n 1

-- names of directories are where these say that they lie
abbrev pub Home : State → (number : ℕ) → Type 0
Home s c =
    is_dir (kind_at s c) ≡ true → (d : ℕ) → d ≢ parent_of (node_at s c) → names_at s d c ≡ 0

module _ (s : State) (n : ℕ) where
  leads_one : (child : Child) (o : Option Node) → kind_in o ≡ Some child.kind
      → (is_dir (kind_in o) ≡ true → parent_of o ≡ n) → Leads s n child o
  leads_one child None fits home = absurd (none-some child.kind fits)
  leads_one child (Some node) fits home =
      (sym (same_Some node.kind child.kind fits), λ dir. home dir)

  leads_all : (links : List (ℕ × Link)) → AllFit s links
      → ((c : ℕ) → 0 < names_in c links → is_dir (kind_at s c) ≡ true
      → parent_of (node_at s c) ≡ n)
      → AllByRecursion
      (λ (link : ℕ × Link). Leads s n link.1.child (node_at s link.1.child.node)) links
  leads_all [] fits home = tt
  leads_all (x ∷ xs) fits home =
      let c = x.1.child.node in (
        leads_one x.1.child (node_at s c) fits.0
            (home c (omega (arith, names_in-cons c x xs, one_same c c refl))),
        leads_all xs fits.1
            (λ d some. home d (let more = names_in-cons d x xs in omega (arith, some, more))),
      )

  fits_one : (child : Child) (o : Option Node) → Leads s n child o → kind_in o ≡ Some child.kind
  fits_one child None l = absurd l
  fits_one child (Some node) l = ap (λ (x : Kind). Some x) (sym l.0)

  home_one : (child : Child) (o : Option Node) → Leads s n child o → is_dir (kind_in o) ≡ true
      → parent_of o ≡ n
  home_one child None l dir = absurd l
  home_one child (Some node) l dir = l.1 dir

  home_links : (c : ℕ) → is_dir (kind_at s c) ≡ true → n ≢ parent_of (node_at s c)
      → (links : List (ℕ × Link))
      → AllByRecursion
      (λ (link : ℕ × Link). Leads s n link.1.child (node_at s link.1.child.node)) links
      → names_in c links ≡ 0
  home_links c dir apart [] all = refl
  home_links c dir apart (x ∷ xs) all =
      let other : x.1.child.node ≢ c = λ e. apart (sym (home_one x.1.child (node_at s c)
      (subst (λ j. Leads s n x.1.child (node_at s j)) e all.0) dir)) in
      let more = names_in-cons c x xs in
      let none = one_other x.1.child.node c other in
      let rest = home_links c dir apart xs all.1 in
      omega (arith, more, none, rest)

module _ (s : State) where
  pub linked_from : Good s → parent_of (node_at s 1) ≡ 1 → Counted s → ((c : ℕ) → Home s c)
      → IsLinked s
  linked_from good top counted home = record {
    root = root (node_at s 1) refl;
    top = top;
    counted = λ n. subst (λ k. names_of (node_at s n) ≡ names_to s n + k) (sym (root_one n))
        (counted n);
    named = λ n. named n (node_at s n) refl;
  }
    where
      root : (o : Option Node) → node_at s 1 ≡ o
          → IfSome o (λ node. is_directory node.kind ≡ true)
      root None is = tt
      root (Some node) is = good.root node.kind (ap kind_in is)

      parent : (n c : ℕ) (node : Node) → node_at s n ≡ Some node
          → 0 < names_in c node.children.links → is_dir (kind_at s c) ≡ true
          → parent_of (node_at s c) ≡ n
      parent n c node is some dir =
          at n (parent_of (node_at s c)) (parent_of (node_at s c) ≡ n) sym
          (λ apart.
          let none = home c dir n (λ e. apart (sym e)) in
          let same = ap (λ o. names_in c (links_in o)) is in
          absurd (omega (arith, some, none, same)))

      named : (n : ℕ) (o : Option Node) → node_at s n ≡ o → IfSome o (IsNamed s n)
      named n None is = tt
      named n (Some node) is =
          let it = good.nodes n node is in
          record {
            apart = are_apart node.children.links it.shape.apart;
            leads = All-from_recursion
                (λ (link : ℕ × Link). Leads s n link.1.child (node_at s link.1.child.node))
                node.children.links
                (leads_all s n node.children.links it.fits (λ c. parent n c node is));
            files = it.shape.files;
            nameless = it.shape.nameless;
            single = it.shape.single;
          }

module _ (s : State) (linked : IsLinked s) where
  named_at : (n : ℕ) (node : Node) → node_at s n ≡ Some node → IsNamed s n node
  named_at n node is = subst (λ o. IfSome o (IsNamed s n)) is (linked.named n)

  leads_at : (n : ℕ) (node : Node) → node_at s n ≡ Some node
      → AllByRecursion
      (λ (link : ℕ × Link). Leads s n link.1.child (node_at s link.1.child.node))
      node.children.links
  leads_at n node is =
      recursion_from_All
      (λ (link : ℕ × Link). Leads s n link.1.child (node_at s link.1.child.node))
      node.children.links (named_at n node is).leads

  root_is : (kind : Kind) (o : Option Node) → IfSome o (λ node. is_directory node.kind ≡ true)
      → kind_in o ≡ Some kind → is_directory kind ≡ true
  root_is kind None dir is = absurd (none-some kind is)
  root_is kind (Some node) dir is =
      subst (λ (k : Kind). is_directory k ≡ true) (same_Some node.kind kind is) dir

  pub good_from : Good s
  good_from = record {
    root = λ kind is. root_is kind (node_at s 1) linked.root is;
    nodes = λ n node is.
        let it = named_at n node is in
        record {
          shape = record {
            apart = apart_from node.children.links it.apart;
            files = it.files;
            nameless = it.nameless;
            single = it.single;
          };
          fits = every_weaker
              (λ (link : ℕ × Link). Leads s n link.1.child (node_at s link.1.child.node))
              (λ (link : ℕ × Link). Fits s link.1.child)
              (λ link l. fits_one s n link.1.child (node_at s link.1.child.node) l)
              node.children.links (leads_at n node is);
        };
  }

  pub counted_from : Counted s
  counted_from n =
      subst (λ k. names_of (node_at s n) ≡ names_to s n + k) (root_one n) (linked.counted n)

  home_in : (c d : ℕ) (o : Option Node) → node_at s d ≡ o → is_dir (kind_at s c) ≡ true
      → d ≢ parent_of (node_at s c) → names_in c (links_in o) ≡ 0
  home_in c d None is dir apart = refl
  home_in c d (Some node) is dir apart =
      home_links s d c dir apart node.children.links (leads_at d node is)

  pub home_from : (c : ℕ) → Home s c
  home_from c dir d apart = home_in c d (node_at s d) refl dir apart
