-- Calls keep links: as many names lead to a node as it says, and each to one that is there.
use Rattle.std.proofs.Common.{◌≡◌, ◌≢◌, ◌+◌, ◌-◌, ◌==◌, if◌then◌else◌, min, ℕ, Bool, true, false, List, [], ◌∷◌, length, Option, Some, None, refl, sym, ap, ◌∙◌, subst, ⊎_elim, arith, nat_le}
use Rattle.std.proofs.lemmas.Bool.{both_ways, cases_Bool, eqb-true, eqb-false, false≢true}
use Rattle.std.proofs.lemmas.Option.{none-some, same_Some}
use Rattle.vfs_files.specs.declared.entry.Context.{Context}
use Rattle.fs_tree.proofs.Nodes.{node_at-with_new_other, with_names}
use Rattle.laws_tree.proofs.NamesIn.{one}
use Rattle.laws_tree.proofs.Tables.{kind_in, kind_at, free_number}
use Rattle.fs_tree.specs.Children.{Children, is_directory, child_named, leading}
use Rattle.fs_tree.specs.Node.{accessed, new_node}
use Rattle.laws_tree.specs.Laws.{names_of, IsSound, IsLinked, CallsKeepLinks}
use Rattle.fs_tree.specs.Rename.{same_node, whiteout, renamed}
use Rattle.fs_tree.specs.State.{State, node_at, with_node, with_resized, with_new, change, child_at}
use Rattle.fs_tree.specs.Tree.{linked, all_forgotten, make_refusal, link_refusal, taken_out}
use Rattle.fs_nodes.specs.declared.children.Child.{Child}
use Rattle.fs_nodes.specs.declared.kind.Kind.{Kind}
use Rattle.fs_nodes.specs.declared.node.Node.{Node}
use Rattle.laws_tree.proofs.Cases.{Covers, Resizes, more_inodes, calls_covered}
use Rattle.laws_tree.proofs.Compounds.{there_is, found_fits, good_mid, counted_mid, home_mid, top_mid, linked-made, linked-nameless, linked-linked, linked-taken_out}
use Rattle.laws_tree.proofs.Held.{sound-with_new, settles}
use Rattle.laws_tree.proofs.Refused.{directory_there, has_names, make_takes, link_takes, none_in, Renames}
use Rattle.laws_tree.proofs.Renaming.{Begins, begins_itself, linked-free, linked-over, linked-exchanged}
use Rattle.laws_tree.proofs.Shapes.{Shape, Fits, kind_new, good_from, counted_from, home_from, linked_from}
use Rattle.laws_tree.proofs.Steps.{none_lost, one_of, linked-with_node, linked-settled}
use Rattle.fs_tree.specs.Naming.{directory_refusal}
use Rattle.laws_tree.proofs.Changes.{forgotten_at, made, nameless, child_of, begun, back_of, laid, left_with}
use Rattle.laws_tree.proofs.Telling.{told_linked}

-- ---- changes of one node that leave its names

-- other bytes may be in use
linked_used : (s : State) (used : ℕ) → IsLinked s → IsLinked (record s { used = used })
linked_used s used linked =
    let good = good_from s linked in
    linked_from (record s { used = used })
    (record {
      root = good.root;
      nodes = λ n node is.
          let it = good.nodes n node is in record { shape = it.shape; fits = it.fits };
    })
    linked.top (counted_from s linked) (home_from s linked)

shape_same : (was node : Node) → node.kind ≡ was.kind → node.names ≡ was.names
    → node.children ≡ was.children → Shape was.kind was.names was.children.links
    → Shape node.kind node.names node.children.links
shape_same was node kind names children shape =
    subst (λ (k : Kind). Shape k node.names node.children.links) (sym kind)
    (subst (λ n. Shape was.kind n node.children.links) (sym names)
    (subst (λ (c : Children). Shape was.kind was.names c.links) (sym children) shape))

-- a change that touches nothing of this
abbrev IsStill : (Node → Node) → Type 0
IsStill f =
    (node : Node) → ((f node).kind ≡ node.kind) × ((f node).names ≡ node.names)
    × ((f node).children ≡ node.children) × ((f node).parent ≡ node.parent)

module _ (s : State) (linked_s : IsLinked s) (n : ℕ) (f : Node → Node) (still : IsStill f)
    (node : Node) (is : node_at s n ≡ Some node) where
  linked_still : IsLinked (with_node s n (f node))
  linked_still =
      let good = good_from s linked_s in
      let counted = counted_from s linked_s in
      let same = still node in
      let names = ap names_of is in
      linked-with_node s n node (f node) is same.0 same.2 same.3 good linked_s.top
      (shape_same node (f node) same.0 same.1 same.2 (good.nodes n node is).shape)
      (omega (arith, counted n, names, same.1)) (λ m apart. counted m) (home_from s linked_s)

-- lookups of a node are taken back
record Both (s : State) : Type 0 where
  pub sound : IsSound s
  pub linked : IsLinked s

forgets : (s : State) (n count : ℕ) (o : Option Node) → node_at s n ≡ o → Both s
    → Both (forgotten_at s n count o)
forgets s n count None is both = both
forgets s n count (Some node) is both =
    let left : Node = record node { lookups = node.lookups - count } in
    let good = good_from s both.linked in
    let counted = counted_from s both.linked in
    let names = ap names_of is in
    record {
      sound = (settles s n node left is both.sound).stays;
      linked = linked-settled s n node left is refl refl refl good both.linked.top
          (good.nodes n node is).shape (omega (arith, counted n, names)) (λ m apart. counted m)
          (home_from s both.linked) both.sound;
    }

forgets_all : (s : State) (pairs : List (ℕ × ℕ)) → Both s → Both (all_forgotten s pairs)
forgets_all s [] both = both
forgets_all s (r ∷ rs) both =
    forgets_all (forgotten_at s r.0 r.1 (node_at s r.0)) rs
    (forgets s r.0 r.1 (node_at s r.0) refl both)

-- names that are exchanged leave no whiteout
no_exchange : (flags : ℕ) → nat_le 4 flags ≡ true → (flags == 2) ≡ false
no_exchange flags leaves =
    ⊎_elim
    (λ two. absurd (false≢true (sym (ap (nat_le 4) (eqb-true flags 2 two)) ∙ leaves)))
    (λ not. not)
    (cases_Bool (flags == 2))

-- ---- calls that change names

module _ (old : State) (sound : IsSound old) (linked_old : IsLinked old) where
  makes : (uid gid : ℕ) (kind : Kind) (permissions parent : ℕ) (name text : List ℕ)
      → make_refusal old parent name (length text) ≡ None
      → IsLinked (made old parent name (new_node old.now uid gid kind permissions parent text))
  makes uid gid kind permissions parent name text free =
      let t = make_takes old parent name (length text) free in
      linked-made old sound linked_old (new_node old.now uid gid kind permissions parent text)
      (omega arith) refl parent t.above t.is refl (λ dir. refl) name t.dir t.named t.free

  makes_nameless : (uid gid permissions parent : ℕ) (is_linkable : Bool)
      → IsLinked (with_new old (nameless old.now uid gid permissions parent is_linkable))
  makes_nameless uid gid permissions parent is_linkable =
      linked-nameless old sound linked_old (nameless old.now uid gid permissions parent is_linkable)
      (omega arith) refl refl

  links : (n : ℕ) (node : Node) (parent : ℕ) (name : List ℕ) → node_at old n ≡ Some node
      → link_refusal old parent name node ≡ None
      → IsLinked (change (more_inodes (min node.names 1) (with_names old parent
      (leading name false (Some (record { node = n; kind = node.kind }))))) n (linked old.now))
  links n node parent name is free =
      let t = link_takes old node parent name free in
      let to = t.0 in
      linked-linked old linked_old n node is t.1 parent name to.above to.is to.dir to.named to.free

  -- a name is taken out, whose node holds none
  takes_out : (parent : ℕ) (name : List ℕ) (child : Child) (target : Node)
      → directory_refusal (node_at old parent) name ≡ None → child_at old parent name ≡ Some child
      → node_at old child.node ≡ Some target → target.children.links ≡ []
      → IsLinked (taken_out old parent name child)
  takes_out parent name child target there found is empty =
      let above = directory_there (node_at old parent) name there in
      linked-taken_out old sound linked_old parent name child above.0 above.1
      (sym (ap (λ o. child_of o name) above.1) ∙ found) target is empty

  module _ (ctx : Context) (od : ℕ) (on : List ℕ) (nd : ℕ) (nn : List ℕ) (flags : ℕ) (child : Child)
      (r : Renames old od on nd nn flags child) where
    from : (node : Node) × (node_at old od ≡ Some node) × (is_directory node.kind ≡ true)
    from = directory_there (node_at old od) on r.from

    into : (node : Node) × (node_at old nd ≡ Some node) × (is_directory node.kind ≡ true)
    into = directory_there (node_at old nd) nn r.into

    named : into.0.names ≡ 0 → ⊥
    named = has_names (node_at old nd) into.0 into.1 r.named

    found : child_named from.0.children on ≡ Some child
    found = sym (ap (λ o. child_of o on) from.1) ∙ r.found

    -- the node that the new name led to
    old_node : (t : Child) → child_at old nd nn ≡ Some t → (x : Node) × (node_at old t.node ≡ Some x)
    old_node t at =
        there_is (node_at old t.node) t.kind
        (found_fits old nd into.0 into.1 nn t (sym (ap (λ o. child_of o nn) into.1) ∙ at)
        (good_from old linked_old))

    two_nodes : (target : Option Child) → same_node (Some child) target ≡ false → (t : Child)
        → target ≡ Some t → child.node ≢ t.node
    two_nodes None same t is = absurd (none-some t is)
    two_nodes (Some x) same t is =
        subst (λ (y : Child). child.node ≢ y.node) (same_Some x t is) (eqb-false child.node x.node same)

    -- to a state with a new node, or without: the new name leads to the node, and the old one there
    module _ (b : State) (extra : ℕ → ℕ) (begins : Begins b extra) (back : Option Child)
        (is_from : node_at b od ≡ Some from.0) (is_into : node_at b nd ≡ Some into.0)
        (olds : (t : Child) (x : Node) → node_at old t.node ≡ Some x → node_at b t.node ≡ Some x)
        (back_fits : (new : Child) → back ≡ Some new → Fits b new)
        (back_apart : (new : Child) → back ≡ Some new → child.node ≢ new.node)
        (plain : (new : Child) → back ≡ Some new → is_directory new.kind ≡ false)
        (new_ones : (m : ℕ) → extra m ≡ one_of back m) (two : (flags == 2) ≡ false) where
      takes_place : (target : Option Child) → child_at old nd nn ≡ target
          → same_node (Some child) target ≡ false
          → IsLinked (left_with (laid b od on nd nn back target child) false od target)
      takes_place None at same =
          linked-free b extra begins od on nd nn back None child from.0 into.0 is_from is_into found
          (sym (ap (λ o. child_of o nn) into.1) ∙ at) into.2 named (two_nodes None same)
          back_fits back_apart plain new_ones refl
      takes_place (Some t) at same =
          let it = old_node t at in
          linked-over b extra begins od on nd nn back (Some t) child from.0 into.0 is_from is_into found
          (sym (ap (λ o. child_of o nn) into.1) ∙ at) into.2 named (two_nodes (Some t) same)
          back_fits back_apart plain new_ones t refl it.0 (olds t it.0 it.1) (r.empty two t it.0 at it.1)

    abbrev white : Node
    white = whiteout old ctx od

    -- a whiteout is made first
    mid_other : (m : ℕ) (x : Node) → node_at old m ≡ Some x
        → node_at (with_new old white) m ≡ Some x
    mid_other m x is =
        node_at-with_new_other old m white
        (λ e. none-some x (sym (free_number old white sound) ∙ ap (node_at old) (sym e) ∙ is))
        ∙ is

    begins_white : Begins (with_new old white) (one old.next)
    begins_white = record {
      sound = sound-with_new old white sound (λ zero. cc zero);
      good = good_mid old sound linked_old white (omega arith) refl;
      top = top_mid old sound linked_old white (omega arith) refl;
      counted = counted_mid old sound linked_old white (omega arith) refl refl;
      home = home_mid old sound linked_old white (omega arith) refl;
    }

    whites : (flags == 2) ≡ false
        → let back : Option Child = Some (record { node = old.next; kind = white.kind }) in
        IsLinked (left_with (laid (with_new old white) od on nd nn back (child_at old nd nn) child)
        false od (child_at old nd nn))
    whites two =
        let fresh : Child = record { node = old.next; kind = white.kind } in
        takes_place (with_new old white) (one old.next) begins_white (Some fresh)
        (mid_other od from.0 from.1) (mid_other nd into.0 into.1)
        (λ t x is. mid_other t.node x is)
        (λ new is. subst (Fits (with_new old white)) (same_Some fresh new is)
        (kind_new old white sound))
        (λ new is e. none-some child.kind
        (sym (ap kind_in (free_number old white sound))
        ∙ ap (kind_at old) (sym (e ∙ sym (ap (λ (c : Child). c.node) (same_Some fresh new is))))
        ∙ found_fits old od from.0 from.1 on child found (good_from old linked_old)))
        (λ new is. sym (ap (λ (c : Child). is_directory c.kind) (same_Some fresh new is)))
        (λ m. refl) two (child_at old nd nn) refl r.apart

    moves_over : (flags == 2) ≡ false
        → IsLinked (left_with (laid old od on nd nn None (child_at old nd nn) child)
        false od (child_at old nd nn))
    moves_over two =
        takes_place old none_lost (begins_itself old sound linked_old) None from.1 into.1
        (λ t x is. is) (λ new is. absurd (none-some new is)) (λ new is. absurd (none-some new is)) (λ new is. absurd (none-some new is)) (λ m. refl) two
        (child_at old nd nn) refl r.apart

    exchanges : (target : Option Child) → child_at old nd nn ≡ target
        → same_node (Some child) target ≡ false
        → IsLinked (left_with (laid old od on nd nn target target child) true od target)
    exchanges None at same =
        linked-free old none_lost (begins_itself old sound linked_old) od on nd nn None None child
        from.0 into.0 from.1 into.1 found (sym (ap (λ o. child_of o nn) into.1) ∙ at) into.2 named
        (two_nodes None same) (λ new is. absurd (none-some new is)) (λ new is. absurd (none-some new is)) (λ new is. absurd (none-some new is)) (λ m. refl) refl
    exchanges (Some t) at same =
        let at_into = sym (ap (λ o. child_of o nn) into.1) ∙ at in
        linked-exchanged old none_lost (begins_itself old sound linked_old) od on nd nn (Some t)
        (Some t) child from.0 into.0 from.1 into.1 found at_into into.2 named
        (two_nodes (Some t) same)
        (λ new is. subst (Fits old) (same_Some t new is)
        (found_fits old nd into.0 into.1 nn t at_into (good_from old linked_old)))
        (two_nodes (Some t) same) t refl refl (λ m. refl)

    renames : IsLinked (renamed old ctx od on nd nn flags (child_at old nd nn) child)
    renames = by (nat_le 4 flags) refl (flags == 2) refl
      where
        by : (leaves : Bool) → nat_le 4 flags ≡ leaves → (exchanged : Bool)
            → (flags == 2) ≡ exchanged
            → let white = if leaves then Some (whiteout old ctx od) else None in
            IsLinked (left_with
            (laid (begun old white) od on nd nn (back_of old exchanged white (child_at old nd nn))
            (child_at old nd nn) child) exchanged od (child_at old nd nn))
        by true leaves true two = absurd (both_ways (flags == 2) (no_exchange flags leaves) two)
        by true leaves false two = whites two
        by false leaves true two = exchanges (child_at old nd nn) refl r.apart
        by false leaves false two = moves_over two

  resizes : (n : ℕ) (was now : Node) → node_at old n ≡ Some was → Resizes old was now
      → IsLinked (with_resized old n was now)
  resizes n was now is r =
      let good = good_from old linked_old in
      let counted = counted_from old linked_old in
      let names = ap names_of is in
      linked_used (with_node old n now) _
      (linked-with_node old n was now is r.kind r.children r.parent good linked_old.top
      (shape_same was now r.kind r.names r.children (good.nodes n was is).shape)
      (omega (arith, counted n, names, r.names)) (λ m apart. counted m) (home_from old linked_old))

  looked_up : (n : ℕ) (node : Node) → node_at old n ≡ Some node
      → IsLinked (with_node old n (record node { lookups = node.lookups + 1 }))
  looked_up n node is =
      linked_still old linked_old n (λ x. record x { lookups = x.lookups + 1 })
      (λ x. (refl, refl, refl, refl)) node is

  forgot : (pairs : List (ℕ × ℕ)) → IsLinked (all_forgotten old pairs)
  forgot pairs = (forgets_all old pairs (record { sound = sound; linked = linked_old })).linked

  pub covers : Covers old (λ taken reply left. IsLinked left)
  covers = record {
    same = λ reply none. linked_old;
    looked_up = looked_up;
    reads = λ n node reply read is.
        linked_still old linked_old n (accessed old.now) (λ x. (refl, refl, refl, refl)) node is;
    forgot = λ pairs reply told. forgot pairs;
    began = λ offered pairs reply told.
        let left = all_forgotten old pairs in told_linked left left.now offered (forgot pairs);
    resizes = λ n was now reply told is r. resizes n was now is r;
    makes = λ reply is. makes;
    makes_nameless = λ reply is uid gid permissions parent name is_linkable none.
        makes_nameless uid gid permissions parent is_linkable;
    links = links;
    unlinks = λ parent name child node there found is file.
        takes_out parent name child node there found is
        (((good_from old linked_old).nodes child.node node is).shape.files file);
    removes = λ parent name child node there found is empty.
        takes_out parent name child node there found is (none_in node.children.links empty);
    renames = renames;
  }

pub calls_keep_links : CallsKeepLinks
calls_keep_links old new call answer sound linked =
    calls_covered old new IsLinked (covers old sound linked) call answer
