-- Links after RENAME, which may make a node first.
use Rattle.std.proofs.Common.{min, ◌≡◌, ◌≢◌, ◌+◌, ◌-◌, ◌<◌, ◌≤◌, ℕ, Bool, true, false, List, [], find, Option, Some, None, is_some, option_map, bytes_eq, refl, sym, ap, ◌∙◌, subst, arith}
use Rattle.std.proofs.lemmas.Bool.{both_ways}
use Rattle.std.proofs.lemmas.Option.{same_Some}
use Rattle.vfs_files.proofs.Indexes.{same_name, mapped_none}
use Rattle.fs_nodes.specs.Children.{Link, Children, is_directory, is_named, child_named, leading}
use Rattle.fs_nodes.specs.declared.children.Child.{Child}
use Rattle.fs_nodes.specs.declared.node.Node.{Node}
use Rattle.fs_tree.specs.Rename.{parent_of, moved_into}
use Rattle.fs_tree.specs.State.{State, node_at, lead, unnamed}
use Rattle.fs_tree.proofs.Nodes.{changed, node_at-with_node, with_names}
use Rattle.laws_tree.specs.Laws.{names_in, names_to, names_of, IsSound, IsLinked}
use Rattle.laws_tree.proofs.Changes.{unnamed_at, laid}
use Rattle.laws_tree.proofs.Compounds.{there_is, empty_finds, shape_empty, found_fits, found_counts, single_at, root_unnamed, arrived_home}
use Rattle.laws_tree.proofs.Held.{at}
use Rattle.laws_tree.proofs.Keeping.{keeps-laid}
use Rattle.laws_tree.proofs.NamesIn.{one, one_same, one_other, find_more_found, find_relinked}
use Rattle.laws_tree.proofs.Shapes.{Fits, Good, Home, linked_from, good_from, counted_from, home_from}
use Rattle.laws_tree.proofs.Steps.{Step, found_link, none_lost, one_of, step-into, step-from, step_home, Moves, moves, linked-recounted, linked-settled}
use Rattle.laws_tree.proofs.Tables.{links_in, names_at, kind_at, is_dir}

-- where a name leads
pub record Finds (t : State) (d : ℕ) (name : List ℕ) (child : Child) : Type 0 where
  pub node : Node
  pub is : node_at t d ≡ Some node
  pub found : child_named node.children name ≡ Some child

-- a name that was found is found after a change that leaves it
module _ (s : State) (nd : ℕ) (f : Children → Children) (d : ℕ) (node : Node)
    (is : node_at s d ≡ Some node) (name : List ℕ) (child : Child)
    (found : child_named node.children name ≡ Some child)
    (stays : nd ≡ d → child_named (f node.children) name ≡ Some child) where
  here_after : nd ≡ d → Finds (with_names s nd f) d name child
  here_after e =
      let last : Node = record node { children = f node.children; mtime = s.now; ctime = s.now } in
      let same = subst (λ j. node_at s j ≡ Some node) (sym e) is in
      record {
        node = last;
        is = subst (λ j. node_at (with_names s nd f) j ≡ Some last) e
            (ap (λ t. node_at t nd) (ap (changed s nd
            (λ (x : Node). record x { children = f x.children; mtime = s.now; ctime = s.now }))
            same)
            ∙ node_at-with_node s nd nd last node same);
        found = stays e;
      }

  pub found_after : ((e : ℕ) → e ≢ nd → node_at (with_names s nd f) e ≡ node_at s e)
      → Finds (with_names s nd f) d name child
  found_after others =
      at nd d (Finds (with_names s nd f) d name child) here_after
      (λ apart. record { node = node; is = others d apart ∙ is; found = found })

-- a directory that is not moved lies where it did
moves_home : (u v : State) (n p : ℕ) → Moves u v n p → (m : ℕ) → m ≢ n → Home u m → Home v m
moves_home u v n p moved m apart home dir d other =
    moved.each d m
    ∙ home (sym (ap is_dir (moved.kinds m)) ∙ dir) d
    (λ e. other (e ∙ sym (ap parent_of (moved.nodes m apart))))

-- a state in which more names may be said to lead to a node than do
pub record Begins (s : State) (extra : ℕ → ℕ) : Type 0 where
  pub sound : IsSound s
  pub good : Good s
  pub top : parent_of (node_at s 1) ≡ 1
  pub counted : (m : ℕ) → names_of (node_at s m) ≡ names_to s m + one m 1 + extra m
  pub home : (c : ℕ) → Home s c

pub begins_itself : (s : State) → IsSound s → IsLinked s → Begins s none_lost
begins_itself s sound linked = record {
  sound = sound;
  good = good_from s linked;
  top = linked.top;
  counted = λ m. omega (arith, counted_from s linked m);
  home = home_from s linked;
}

-- ---- a name of nd leads to the node of one of od, and this one elsewhere, or nowhere

module _ (s : State) (extra : ℕ → ℕ) (b : Begins s extra)
    (od : ℕ) (on : List ℕ) (nd : ℕ) (nn : List ℕ) (back target : Option Child) (child : Child)
    (from into : Node) (is_from : node_at s od ≡ Some from) (is_into : node_at s nd ≡ Some into)
    (found : child_named from.children on ≡ Some child)
    (found_target : child_named into.children nn ≡ target)
    (dir : is_directory into.kind ≡ true) (named : into.names ≡ 0 → ⊥)
    (apart : (old : Child) → target ≡ Some old → child.node ≢ old.node)
    (back_fits : (new : Child) → back ≡ Some new → Fits s new)
    (back_apart : (new : Child) → back ≡ Some new → child.node ≢ new.node) where
  most : (m : ℕ) → names_to s m + one m 1 ≤ names_of (node_at s m)
  most m = omega (arith, b.counted m)

  fits : Fits s child
  fits = found_fits s od from is_from on child found b.good

  some : 0 < names_at s od child.node
  some = found_counts s od from is_from on child found

  root_apart : 1 ≢ child.node
  root_apart = root_unnamed s b.good most from od child.node some

  lost_none : (o : Option Child) → ((x : Child) → o ≡ Some x → child.node ≢ x.node)
      → one_of o child.node ≡ 0
  lost_none None other = refl
  lost_none (Some x) other = one_other x.node child.node (λ e. other x refl (sym e))

  -- where both directories are one, the old name stays beside the new one
  same_from : nd ≡ od → into ≡ from
  same_from same = same_Some into from (sym is_into ∙ ap (node_at s) same ∙ is_from)

  differ : (old : Child) → target ≡ Some old → nd ≡ od → (t : Bool) → bytes_eq on nn ≡ t
      → bytes_eq on nn ≡ false
  differ old is e false names = names
  differ old is e true names =
      let found_too : child_named from.children nn ≡ Some old =
      ap (λ (x : Node). child_named x.children nn) (sym (same_from e)) ∙ found_target ∙ is in
      let found_so : child_named from.children nn ≡ Some child =
      ap (child_named from.children) (sym (same_name on nn names)) ∙ found in
      absurd (apart old is (ap (λ (c : Child). c.node)
      (same_Some child old (sym found_so ∙ found_too))))

  beside : (o : Option Child) → target ≡ o → nd ≡ od
      → child_named (leading nn (is_some o) (Some child) from.children) on ≡ Some child
  beside None is same =
      let links = from.children.links in
      let new : ℕ × Link = (from.children.next, record { name = nn; child = child }) in
      let e = found_link (find (is_named on) links) child found in
      let free : find (is_named nn) links ≡ None =
      mapped_none (λ (link : ℕ × Link). link.1.child) (find (is_named nn) links)
      (ap (λ (x : Node). child_named x.children nn) (sym (same_from same)) ∙ found_target ∙ is) in
      ap (option_map (λ (link : ℕ × Link). link.1.child)) (find_more_found on links new e.0 free e.1)
      ∙ ap (λ (c : Child). Some c) e.2
  beside (Some old) is same =
      ap (option_map (λ (link : ℕ × Link). link.1.child))
      (find_relinked nn on child (differ old is same (bytes_eq on nn) refl) from.children.links)
      ∙ found

  -- the first step, and the second
  abbrev one_led : State
  one_led = lead s nd nn (is_some target) (Some child)

  abbrev two_led : State
  two_led = lead one_led od on true back

  abbrev last : State
  last = laid s od on nd nn back target child

  first : Step s one_led nd (one_of target) (one child.node)
  first = step-into s nd into is_into b.good nn child dir named fits target found_target

  still : Finds one_led od on child
  still =
      found_after s nd (leading nn (is_some target) (Some child)) od from is_from on child found
      (beside target refl) first.nodes

  second : Step one_led two_led od (one child.node) (one_of back)
  second =
      step-from one_led od still.node still.is first.good on child still.found back
      (λ new is. first.kinds new.node ∙ back_fits new is)

  two_kinds : (m : ℕ) → kind_at two_led m ≡ kind_at s m
  two_kinds m = second.kinds m ∙ first.kinds m

  there : (x : Node) × (node_at two_led child.node ≡ Some x)
  there = there_is (node_at two_led child.node) child.kind (two_kinds child.node ∙ fits)

  moved : Moves two_led last child.node nd
  moved = moves two_led child.node nd there.0 there.1 second.good

  -- what they leave
  kinds : (m : ℕ) → kind_at last m ≡ kind_at s m
  kinds m = moved.kinds m ∙ two_kinds m

  names : (m : ℕ) → names_of (node_at last m) ≡ names_of (node_at s m)
  names m = moved.names m ∙ second.names m ∙ first.names m

  to : (m : ℕ) → names_to last m + one_of target m ≡ names_to s m + one_of back m
  to m = omega (arith, moved.to m, second.to m, first.to m)

  top : parent_of (node_at last 1) ≡ 1
  top = ap parent_of (moved.nodes 1 root_apart) ∙ second.parents 1 ∙ first.parents 1 ∙ b.top

  sound_last : IsSound last
  sound_last = (keeps-laid s od on nd nn back target child b.sound).sound

  arrived : 0 < names_at two_led nd child.node
  arrived =
      let c = child.node in
      let one_more = one_same c c refl in
      let stays = lost_none target apart in
      let stays_too = lost_none back back_apart in
      at od nd (0 < names_at two_led nd c)
      (λ e. subst (λ j. 0 < names_at two_led j c) e
      (let gain = subst (λ j. names_at one_led j c + one_of target c ≡ names_at s j c + one c c) (sym e)
      (first.here c) in
      omega (arith, gain, second.here c, one_more, stays, stays_too, some)))
      (λ other.
      let as_was = ap (λ o. names_in c (links_in o)) (second.nodes nd other) in
      omega (arith, as_was, first.here c, one_more, stays))

  home_child : Home last child.node
  home_child =
      arrived_home last from child.node nd moved.here
      (λ is.
      let few = single_at s b.good most child.node (sym (ap is_dir (kinds child.node)) ∙ is) in
      omega (arith, few, to child.node, lost_none back back_apart))
      (omega (arith, moved.each nd child.node, arrived))

  home_other : (m : ℕ) → m ≢ child.node → one_of back m ≡ 0 → Home last m
  home_other m other none =
      moves_home two_led last child.node nd moved m other
      (step_home one_led two_led od (one child.node) (one_of back) second m none
      (step_home s one_led nd (one_of target) (one child.node) first m
      (one_other child.node m (λ e. other (sym e))) (b.home m)))

  -- ---- the old name leads nowhere, or to a new node that is no directory

  module _ (plain : (new : Child) → back ≡ Some new → is_directory new.kind ≡ false)
      (new_ones : (m : ℕ) → extra m ≡ one_of back m) where
    home_by : (o : Option Child) → back ≡ o → (m : ℕ) → m ≢ child.node → Home last m
    home_by None is m other = home_other m other (ap (λ o. one_of o m) is)
    home_by (Some new) is m other =
        at new.node m (Home last m)
        (λ e. subst (Home last) e
        (λ dir. absurd (both_ways (is_directory new.kind) (plain new is)
        (sym (ap is_dir (kinds new.node ∙ back_fits new is)) ∙ dir))))
        (λ another.
        home_other m other
        (ap (λ o. one_of o m) is ∙ one_other new.node m (λ e. another (sym e))))

    home_last : (m : ℕ) → Home last m
    home_last m =
        at child.node m (Home last m) (λ e. subst (Home last) e home_child) (home_by back refl m)

    counted_last : (m : ℕ) → names_of (node_at last m) ≡ names_to last m + one_of target m + one m 1
    counted_last m = omega (arith, names m, to m, b.counted m, new_ones m)

    pub linked-free : target ≡ None → IsLinked last
    linked-free free =
        linked_from last moved.good top
        (λ m. omega (arith, counted_last m, ap (λ o. one_of o m) free)) home_last

    -- what stood there has one name less
    module _ (t : Child) (is : target ≡ Some t) (old : Node) (is_old : node_at s t.node ≡ Some old)
        (empty : old.children.links ≡ []) where
      at_into : child_named into.children nn ≡ Some t
      at_into = found_target ∙ is

      not_into : t.node ≢ nd
      not_into e =
          let same = same_Some old into (sym is_old ∙ ap (node_at s) e ∙ is_into) in
          empty_finds into.children nn t (ap (λ (x : Node). x.children.links) (sym same) ∙ empty) at_into

      not_from : t.node ≢ od
      not_from e =
          let same = same_Some old from (sym is_old ∙ ap (node_at s) e ∙ is_from) in
          empty_finds from.children on child
          (ap (λ (x : Node). x.children.links) (sym same) ∙ empty) found

      is_last : node_at last t.node ≡ Some old
      is_last =
          moved.nodes t.node (λ e. apart t is (sym e)) ∙ second.nodes t.node not_from
          ∙ first.nodes t.node not_into ∙ is_old

      abbrev less : Node
      less = record old { names = old.names - 1; ctime = last.now }

      pub linked-over : IsLinked (unnamed last t.node)
      linked-over =
          let all = ap names_of is_last in
          let lost = λ (m : ℕ). ap (λ o. one_of o m) is in
          subst IsLinked (sym (ap (unnamed_at last t.node) is_last))
          (linked-recounted last t.node less (last.inodes - min (old.names - 1) 1)
          (linked-settled last t.node old less is_last refl refl refl moved.good top
          (shape_empty old.kind old.names old.children.links empty
          (b.good.nodes t.node old is_old).shape)
          (omega (arith, all, counted_last t.node, lost t.node, one_same t.node t.node refl))
          (λ m other.
          omega (arith, counted_last m, lost m, one_other t.node m (λ e. other (sym e))))
          home_last sound_last))

  -- ---- each name leads where the other did

  module _ (t : Child) (is : target ≡ Some t) (same : back ≡ target)
      (none_new : (m : ℕ) → extra m ≡ 0) where
    abbrev both : State
    both = moved_into last t.node od

    fits_too : kind_at last t.node ≡ Some t.kind
    fits_too = kinds t.node ∙ back_fits t (same ∙ is)

    there_too : (x : Node) × (node_at last t.node ≡ Some x)
    there_too = there_is (node_at last t.node) t.kind fits_too

    moved_too : Moves last both t.node od
    moved_too = moves last t.node od there_too.0 there_too.1 moved.good

    as_many : (m : ℕ) → names_to both m ≡ names_to s m
    as_many m = omega (arith, moved_too.to m, to m, ap (λ o. one_of o m) same)

    home_target : Home both t.node
    home_target =
        arrived_home both from t.node od moved_too.here
        (λ dir.
        let few = single_at s b.good most t.node
        (sym (ap is_dir (moved_too.kinds t.node ∙ kinds t.node)) ∙ dir) in
        omega (arith, few, as_many t.node))
        (omega (
          arith,
          moved_too.each od t.node,
          moved.each od t.node,
          second.here t.node,
          ap (λ o. one_of o t.node) (same ∙ is),
          one_same t.node t.node refl,
          one_other child.node t.node (apart t is),
        ))

    home_both : (m : ℕ) → Home both m
    home_both m =
        at t.node m (Home both m) (λ e. subst (Home both) e home_target)
        (λ another.
        moves_home last both t.node od moved_too m another
        (at child.node m (Home last m) (λ e. subst (Home last) e home_child)
        (λ other. home_other m other
        (ap (λ o. one_of o m) (same ∙ is) ∙ one_other t.node m (λ e. another (sym e))))))

    root_apart_too : 1 ≢ t.node
    root_apart_too =
        root_unnamed s b.good most from nd t.node
        (found_counts s nd into is_into nn t (found_target ∙ is))

    pub linked-exchanged : IsLinked both
    linked-exchanged =
        linked_from both moved_too.good
        (ap parent_of (moved_too.nodes 1 root_apart_too) ∙ top)
        (λ m. omega (arith, moved_too.names m, names m, as_many m, b.counted m, none_new m))
        home_both
