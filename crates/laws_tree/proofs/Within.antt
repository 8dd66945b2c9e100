-- Calls keep a state within its limits, which stay.
use Rattle.std.proofs.Common.{◌≡◌, ◌≤◌, ◌<◌, ◌+◌, ◌-◌, ◌==◌, ◌&&◌, ◌||◌, not, nat_lt, nat_le, min, max, ℕ, Bool, true, false, cond, List, [], ◌∷◌, length, Option, Some, None, is_some, nat_cmp, Ordering, Less, Equal, Greater, option_map, refl, sym, ap, ◌∙◌, subst, arith, if◌then◌else◌, ◌^◌}
use Rattle.std.specs.List.{sum_by}
use Rattle.std.specs.Option.{unwrap_or}
use Rattle.std.specs.BTreeMap.{insert_entry, is_at}
use Rattle.std.specs.Map.{lookup, set_value, remove_entry, values_of}
use Rattle.std.specs.Ordering.{match_ordering, MatchOrdering}
use Rattle.std.specs.Cmp.{ranks}
use Rattle.std.proofs.lemmas.Bool.{ltb-false, leb-false, eqb-true, and_parts, or_parts}
use Rattle.std.proofs.lemmas.List.Sums.{sum_by-cons}
use Rattle.std.proofs.lemmas.Map.Entries.{sum_by-set_value, sum_by-remove_entry}
use Rattle.std.proofs.lemmas.Option.{same_Some}
use Rattle.vfs_flags.specs.Numbers.{enoent, enospc, eperm, eoverflow, emlink}
use Rattle.vfs_files.specs.declared.entry.Context.{Context}
use Rattle.fs_tree.specs.Children.{Children, leading, is_directory}
use Rattle.laws_tree.specs.Laws.{Ascend, IsSound, IsWithin, IsShort, AreShort, inodes_of, CallsStayWithin}
use Rattle.fs_tree.specs.Node.{weight, new_node}
use Rattle.fs_tree.specs.Outcome.{first_of}
use Rattle.fs_tree.specs.Rename.{moved_into, whiteout, renamed}
use Rattle.fs_tree.specs.State.{State, node_at, room_of, with_node, with_resized, with_new, without_node, settled, change, lead, child_at}
use Rattle.fs_tree.specs.Tree.{linked, all_forgotten, taken_out, make_refusal, link_refusal}
use Rattle.fs_nodes.specs.declared.children.Child.{Child}
use Rattle.fs_nodes.specs.declared.kind.Kind.{Kind}
use Rattle.fs_nodes.specs.declared.node.Node.{Node}
use Rattle.fs_tree.proofs.Nodes.{kinds_apart, changed, with_names}
use Rattle.laws_tree.proofs.Ascending.{ascend_within}
use Rattle.laws_tree.proofs.Cases.{Covers, Resizes, more_inodes, calls_covered}
use Rattle.laws_tree.proofs.Refused.{all_false, or_none, link_takes, Renames}
use Rattle.fs_tree.specs.Naming.{is_directory_at, is_crowded, directory_refusal, name_refusal, nameless_refusal, has_no_number}
use Rattle.laws_tree.proofs.Changes.{unnamed_at, forgotten_at, made, nameless, white_of, begun, back_of, laid, left_with}
use Rattle.laws_tree.proofs.Telling.{told_within}

-- what the nodes take together, and how many inodes they are counted as
abbrev total : State → ℕ
total s = sum_by weight (values_of s.nodes)

abbrev inodes_in : State → ℕ
inodes_in s = sum_by inodes_of (values_of s.nodes)

-- ---- entries

-- an entry after the last
record Adds (es fs : List (ℕ × Node)) (w : Node) : Type 0 where
  pub sum : (h : Node → ℕ) → sum_by h (values_of fs) ≡ sum_by h (values_of es) + h w
  pub short : (most : ℕ) → AreShort most es → IsShort most w → AreShort most fs

adds-insert_entry : (from to : ℕ) (es : List (ℕ × Node)) (w : Node) → Ascend from es to
    → Adds es (insert_entry nat_cmp es to w) w
adds-insert_entry from to [] w a = record {
  sum = λ h. omega (arith, sum_by-cons h w []);
  short = λ most all here. (here, tt);
}
adds-insert_entry from to (e ∷ es) w a =
    by (nat_cmp to e.0) (ranks to e.0) (adds-insert_entry (e.0 + 1) to es w a.1)
  where
    by : (r : Ordering) → MatchOrdering r (to < e.0) (to ≡ e.0) (e.0 < to)
        → Adds es (insert_entry nat_cmp es to w) w
        → Adds (e ∷ es)
        (match_ordering r ((to, w) ∷ e ∷ es) ((e.0, w) ∷ es) (e ∷ insert_entry nat_cmp es to w)) w
    by Less is more = absurd (omega (arith, is, ascend_within (e.0 + 1) to es a.1))
    by Equal is more = absurd (omega (arith, is, ascend_within (e.0 + 1) to es a.1))
    by Greater is more = record {
      sum = λ h. omega (
        arith,
        more.sum h,
        sum_by-cons h e.1 (values_of es),
        sum_by-cons h e.1 (values_of (insert_entry nat_cmp es to w)),
      );
      short = λ most all here. (all.0, more.short most all.1 here);
    }

-- no file is longer after one was changed or taken out
module _ (most : ℕ) (test : ℕ → Bool) where
  short-found : (es : List (ℕ × Node)) (was : Node) → AreShort most es
      → lookup test es ≡ Some was → IsShort most was
  short-found [] was all found = cc found
  short-found (e ∷ es) was all found = by (test e.0) found (short-found es was all.1)
    where
      by : (t : Bool) → cond t (Some e.1) (lookup test es) ≡ Some was
          → (lookup test es ≡ Some was → IsShort most was) → IsShort most was
      by true is more = subst (IsShort most) (same_Some e.1 was is) all.0
      by false is more = more is

  short-set_value : (es : List (ℕ × Node)) (w : Node) → AreShort most es → IsShort most w
      → AreShort most (set_value test es w)
  short-set_value [] w all here = tt
  short-set_value (e ∷ es) w all here = by (test e.0) (short-set_value es w all.1 here)
    where
      by : (t : Bool) → AreShort most (set_value test es w)
          → AreShort most (cond t ((e.0, w) ∷ es) (e ∷ set_value test es w))
      by true more = (here, all.1)
      by false more = (all.0, more)

  short-remove_entry : (es : List (ℕ × Node)) → AreShort most es
      → AreShort most (remove_entry test es)
  short-remove_entry [] all = tt
  short-remove_entry (e ∷ es) all = by (test e.0) (short-remove_entry es all.1)
    where
      by : (t : Bool) → AreShort most (remove_entry test es)
          → AreShort most (cond t es (e ∷ remove_entry test es))
      by true more = all.1
      by false more = (all.0, more)

-- ---- changes after which no more is in use

record Slims (old new : State) : Type 0 where
  pub limits : new.limits ≡ old.limits
  pub used : new.used ≤ old.used
  pub sums : old.used ≡ total old → new.used ≡ total new
  pub inodes : new.inodes ≤ old.inodes
  pub counts : old.inodes ≡ inodes_in old → new.inodes ≡ inodes_in new
  pub short : (most : ℕ) → AreShort most old.nodes → AreShort most new.nodes

slims_itself : (s : State) → Slims s s
slims_itself s = record {
  limits = refl;
  used = omega arith;
  sums = λ h. h;
  inodes = omega arith;
  counts = λ h. h;
  short = λ most h. h;
}

slims_both : (a b c : State) → Slims a b → Slims b c → Slims a c
slims_both a b c first more = record {
  limits = more.limits ∙ first.limits;
  used = omega (arith, first.used, more.used);
  sums = λ h. more.sums (first.sums h);
  inodes = omega (arith, first.inodes, more.inodes);
  counts = λ h. more.counts (first.counts h);
  short = λ most h. more.short most (first.short most h);
}

-- a node that weighs what another does, and whose bytes are within a limit where those are
record Weighs (was node : Node) : Type 0 where
  pub same : weight node ≡ weight was
  pub short : (most : ℕ) → IsShort most was → IsShort most node

module _ (s : State) (n : ℕ) (was node : Node) (is : node_at s n ≡ Some was)
    (even : Weighs was node) where
  short-here : (most : ℕ) → AreShort most s.nodes → IsShort most node
  short-here most all = even.short most (short-found most (is_at (nat_cmp n)) s.nodes was all is)

  slims-with_node : inodes_of node ≡ inodes_of was → Slims s (with_node s n node)
  slims-with_node same = record {
    limits = refl;
    used = omega arith;
    sums = λ h. omega (
      arith,
      h,
      even.same,
      sum_by-set_value weight (is_at (nat_cmp n)) s.nodes was node is,
    );
    inodes = omega arith;
    counts = λ h. omega (
      arith,
      h,
      same,
      sum_by-set_value inodes_of (is_at (nat_cmp n)) s.nodes was node is,
    );
    short = λ most all.
        short-set_value most (is_at (nat_cmp n)) s.nodes node all (short-here most all);
  }

  -- where one name less leads to it
  abbrev fewer : State
  fewer = record s { inodes = s.inodes - min (was.names - 1) 1 }

  slims-fewer : node.names ≡ was.names - 1 → Slims s (with_node fewer n node)
  slims-fewer less = record {
    limits = refl;
    used = omega arith;
    sums = λ h. omega (
      arith,
      h,
      even.same,
      sum_by-set_value weight (is_at (nat_cmp n)) s.nodes was node is,
    );
    inodes = omega arith;
    counts = λ h. omega (
      arith,
      h,
      less,
      sum_by-set_value inodes_of (is_at (nat_cmp n)) s.nodes was node is,
    );
    short = λ most all.
        short-set_value most (is_at (nat_cmp n)) s.nodes node all (short-here most all);
  }

  slims-without_node : was.names ≤ 1 → Slims s (without_node s n node)
  slims-without_node few = record {
    limits = refl;
    used = omega arith;
    sums = λ h.
        let here : unwrap_or (option_map weight (node_at s n)) 0 ≡ weight was =
        ap (λ o. unwrap_or (option_map weight o) 0) is in
        omega (arith, h, even.same, here, sum_by-remove_entry weight (is_at (nat_cmp n)) s.nodes);
    inodes = omega arith;
    counts = λ h.
        let here : unwrap_or (option_map inodes_of (node_at s n)) 0 ≡ inodes_of was =
        ap (λ o. unwrap_or (option_map inodes_of o) 0) is in
        omega (arith, h, few, here, sum_by-remove_entry inodes_of (is_at (nat_cmp n)) s.nodes);
    short = λ most all. short-remove_entry most (is_at (nat_cmp n)) s.nodes all;
  }

  -- lookups of it were taken back
  slims-settled : node.names ≡ was.names → Slims s (settled s n node)
  slims-settled same = by (node.names == 0 && node.lookups == 0) refl
    where
      by : (t : Bool) → (node.names == 0 && node.lookups == 0) ≡ t
          → Slims s (if t then without_node s n node else with_node s n node)
      by true gone =
          let none = eqb-true node.names 0 (and_parts (node.names == 0) (node.lookups == 0) gone).0 in
          slims-without_node (omega (arith, none, same))
      by false stays = slims-with_node (omega (arith, same))

  -- or a name of it was
  slims-settled_fewer : node.names ≡ was.names - 1 → Slims s (settled fewer n node)
  slims-settled_fewer less = by (node.names == 0 && node.lookups == 0) refl
    where
      by : (t : Bool) → (node.names == 0 && node.lookups == 0) ≡ t
          → Slims s (if t then without_node fewer n node else with_node fewer n node)
      by true gone =
          let none = eqb-true node.names 0 (and_parts (node.names == 0) (node.lookups == 0) gone).0 in
          let gone = slims-without_node (omega (arith, none, less)) in
          record {
            limits = gone.limits;
            used = gone.used;
            sums = gone.sums;
            inodes = omega arith;
            counts = λ h. omega (arith, gone.counts h, none, less);
            short = gone.short;
          }
      by false stays = slims-fewer less

-- a node is changed, and weighs what it did
abbrev IsEven : (Node → Node) → Type 0
IsEven f = (node : Node) → Weighs node (f node) × (inodes_of (f node) ≡ inodes_of node)

slims-changed : (s : State) (n : ℕ) (f : Node → Node) → IsEven f → (o : Option Node)
    → node_at s n ≡ o → Slims s (changed s n f o)
slims-changed s n f even None is = slims_itself s
slims-changed s n f even (Some node) is =
    slims-with_node s n node (f node) is (even node).0 (even node).1

slims-change : (s : State) (n : ℕ) (f : Node → Node) → IsEven f → Slims s (change s n f)
slims-change s n f even = slims-changed s n f even (node_at s n) refl

slims-with_names : (s : State) (d : ℕ) (f : Children → Children) → Slims s (with_names s d f)
slims-with_names s d f =
    slims-change s d _ (λ node. (record { same = refl; short = λ most h. h }, refl))

slims-moved_into : (s : State) (n d : ℕ) → Slims s (moved_into s n d)
slims-moved_into s n d =
    slims-change s n _ (λ node. (record { same = refl; short = λ most h. h }, refl))

slims-unnamed : (s : State) (n : ℕ) (o : Option Node) → node_at s n ≡ o → Slims s (unnamed_at s n o)
slims-unnamed s n None is = slims_itself s
slims-unnamed s n (Some node) is =
    slims-settled_fewer s n node (record node { names = node.names - 1; ctime = s.now }) is
    (record { same = refl; short = λ most h. h }) refl

slims-forgotten : (s : State) (n count : ℕ) (o : Option Node) → node_at s n ≡ o
    → Slims s (forgotten_at s n count o)
slims-forgotten s n count None is = slims_itself s
slims-forgotten s n count (Some node) is =
    slims-settled s n node (record node { lookups = node.lookups - count }) is
    (record { same = refl; short = λ most h. h }) refl

slims-all_forgotten : (s : State) (pairs : List (ℕ × ℕ)) → Slims s (all_forgotten s pairs)
slims-all_forgotten s [] = slims_itself s
slims-all_forgotten s (r ∷ rs) =
    let mid = forgotten_at s r.0 r.1 (node_at s r.0) in
    slims_both s mid (all_forgotten mid rs)
    (slims-forgotten s r.0 r.1 (node_at s r.0) refl) (slims-all_forgotten mid rs)

slims-taken_out : (s : State) (parent : ℕ) (name : List ℕ) (child : Child)
    → Slims s (taken_out s parent name child)
slims-taken_out s parent name child =
    let rest = with_names s parent (leading name true None) in
    slims_both s rest (taken_out s parent name child)
    (slims-with_names s parent _) (slims-unnamed rest child.node (node_at rest child.node) refl)

-- ---- RENAME

slims-laid : (s : State) (od : ℕ) (on : List ℕ) (nd : ℕ) (nn : List ℕ) (back target : Option Child)
    (child : Child) → Slims s (laid s od on nd nn back target child)
slims-laid s od on nd nn back target child =
    let first = lead s nd nn (is_some target) (Some child) in
    let second = lead first od on true back in
    let last = laid s od on nd nn back target child in
    slims_both s first last (slims-with_names s nd _)
    (slims_both first second last (slims-with_names first od _) (slims-moved_into second child.node nd))

slims-left_with : (s : State) (exchanges : Bool) (od : ℕ) (target : Option Child)
    → Slims s (left_with s exchanges od target)
slims-left_with s exchanges od None = slims_itself s
slims-left_with s true od (Some old) = slims-moved_into s old.node od
slims-left_with s false od (Some old) = slims-unnamed s old.node (node_at s old.node) refl

-- ---- within the limits

-- the state is within its limits, which are those of another
pub record StaysWithin (old new : State) : Type 0 where
  pub within : IsWithin new
  pub limits : new.limits ≡ old.limits

stays-slims : (old mid new : State) → StaysWithin old mid → Slims mid new → StaysWithin old new
stays-slims old mid new stays slims = record {
  within =
      let bytes = ap (λ l. l.bytes) slims.limits in
      let nodes = ap (λ l. l.nodes) slims.limits in
      let file = ap (λ l. l.file) slims.limits in
      record {
        used = slims.sums stays.within.used;
        bytes = omega (arith, bytes, slims.used, stays.within.bytes);
        counted = slims.counts stays.within.counted;
        inodes = omega (arith, nodes, slims.inodes, stays.within.inodes);
        files = subst (λ most. AreShort most new.nodes) (sym file)
            (slims.short mid.limits.file stays.within.files);
      };
  limits = slims.limits ∙ stays.limits;
}

changed_inodes : (s : State) (n : ℕ) (f : Node → Node) (o : Option Node)
    → (changed s n f o).inodes ≡ s.inodes
changed_inodes s n f None = refl
changed_inodes s n f (Some node) = refl

module _ (old : State) (sound : IsSound old) (within : IsWithin old) where
  slim : (new : State) → Slims old new → StaysWithin old new
  slim new slims = stays-slims old old new (record { within = within; limits = refl }) slims

  resizes : (n : ℕ) (was now : Node) → node_at old n ≡ Some was → Resizes old was now
      → StaysWithin old (with_resized old n was now)
  resizes n was now is r =
      let sum = sum_by-set_value weight (is_at (nat_cmp n)) old.nodes was now is in
      let inodes = sum_by-set_value inodes_of (is_at (nat_cmp n)) old.nodes was now is in
      let short = short-found old.limits.file (is_at (nat_cmp n)) old.nodes was within.files is in
      record {
        within = record {
          used = omega (arith, sum, within.used);
          bytes = omega (arith, r.room, within.bytes);
          counted = omega (arith, inodes, within.counted, r.names);
          inodes = within.inodes;
          files = short-set_value old.limits.file (is_at (nat_cmp n)) old.nodes now within.files
              (r.file short);
        };
        limits = refl;
      }

  adds : (node : Node) → node.names ≤ 1 → old.inodes < old.limits.nodes
      → weight node ≤ room_of old → IsShort old.limits.file node → StaysWithin old (with_new old node)
  adds node one place room short =
      let more = adds-insert_entry 1 old.next old.nodes node sound.ordered in
      record {
        within = record {
          used = omega (arith, more.sum weight, within.used);
          bytes = omega (arith, room, within.bytes);
          counted = omega (arith, more.sum inodes_of, within.counted, one);
          inodes = omega (arith, place);
          files = more.short old.limits.file within.files short;
        };
        limits = refl;
      }

  makes : (uid gid : ℕ) (kind : Kind) (permissions parent : ℕ) (name text : List ℕ)
      → make_refusal old parent name (length text) ≡ None
      → StaysWithin old
      (made old parent name (new_node old.now uid gid kind permissions parent text))
  makes uid gid kind permissions parent name text none =
      let node = new_node old.now uid gid kind permissions parent text in
      let crowded = is_crowded (node_at old parent) in
      let none_left = has_no_number old in
      let small = nat_lt (room_of old) (length text) in
      let rs : List (Bool × ℕ) = (none_left || crowded || small, enospc) ∷ [] in
      let not = or_parts (none_left || crowded) small
      (all_false rs (or_none (name_refusal old parent name) (first_of rs) none).1).0 in
      let place = or_parts (nat_le old.limits.nodes old.inodes) (old.next == 2 ^ 64 - 1)
      (or_parts none_left crowded not.0).0 in
      stays-slims old (with_new old node) (made old parent name node)
      (adds node (omega arith) (leb-false old.limits.nodes old.inodes place.0)
      (omega (arith, ltb-false (room_of old) (length text) not.1))
      (λ is. omega arith))
      (slims-with_names (with_new old node) parent _)

  makes_nameless : (uid gid permissions parent : ℕ) (name : List ℕ) (is_linkable : Bool)
      → nameless_refusal old parent name ≡ None
      → StaysWithin old (with_new old (nameless old.now uid gid permissions parent is_linkable))
  makes_nameless uid gid permissions parent name is_linkable none =
      let rs : List (Bool × ℕ) = (has_no_number old, enospc) ∷ [] in
      let free = (all_false rs (or_none (directory_refusal (node_at old parent) name) (first_of rs) none).1).0 in
      let place = or_parts (nat_le old.limits.nodes old.inodes) (old.next == 2 ^ 64 - 1) free in
      adds (nameless old.now uid gid permissions parent is_linkable) (omega arith)
      (leb-false old.limits.nodes old.inodes place.0) (omega arith) (λ is. omega arith)

  begins : (ctx : Context) (od flags : ℕ) → (nat_le 4 flags && has_no_number old) ≡ false
      → StaysWithin old (begun old (white_of old ctx od flags))
  begins ctx od flags room = by (nat_le 4 flags) room
    where
      by : (t : Bool) → (t && has_no_number old) ≡ false
          → StaysWithin old (begun old (if t then Some (whiteout old ctx od) else None))
      by true room =
          adds (whiteout old ctx od) (omega arith)
          (leb-false old.limits.nodes old.inodes
          (or_parts (nat_le old.limits.nodes old.inodes) (old.next == 2 ^ 64 - 1) room).0)
          (omega arith) (λ is. omega arith)
      by false room = slim old (slims_itself old)

  renames : (ctx : Context) (od : ℕ) (on : List ℕ) (nd : ℕ) (nn : List ℕ) (flags : ℕ) (child : Child)
      → Renames old od on nd nn flags child
      → StaysWithin old (renamed old ctx od on nd nn flags (child_at old nd nn) child)
  renames ctx od on nd nn flags child r =
      let target = child_at old nd nn in
      let white = white_of old ctx od flags in
      let mid = begun old white in
      let back = back_of old (flags == 2) white target in
      let there = laid mid od on nd nn back target child in
      let last = left_with there (flags == 2) od target in
      stays-slims old mid last (begins ctx od flags r.room)
      (slims_both mid there last (slims-laid mid od on nd nn back target child)
      (slims-left_with there (flags == 2) od target))

  links : (n : ℕ) (node : Node) (parent : ℕ) (name : List ℕ) → node_at old n ≡ Some node
      → link_refusal old parent name node ≡ None
      → StaysWithin old (change (more_inodes (min node.names 1) (with_names old parent
      (leading name false (Some (record { node = n; kind = node.kind }))))) n (linked old.now))
  links n node parent name is none =
      let child : Child = record { node = n; kind = node.kind } in
      let f : Children → Children = leading name false (Some child) in
      let named = with_names old parent f in
      let mid = more_inodes (min node.names 1) named in
      let full = nat_le old.limits.nodes old.inodes in
      let crowded = is_crowded (node_at old parent) in
      let rs : List (Bool × ℕ) = (is_directory node.kind, eperm)
      ∷ (node.names == 0 && not node.is_linkable, enoent)
      ∷ (nat_le 65000 node.names, emlink)
      ∷ (node.lookups == 2 ^ 64 - 1, eoverflow)
      ∷ ((not (node.names == 0) && full) || crowded, enospc) ∷ [] in
      let free = all_false rs (or_none (name_refusal old parent name) (first_of rs) none).1 in
      let place = has_place (node.names == 0) refl
      (or_parts (not (node.names == 0) && full) crowded free.1.1.1.1.0).0 in
      let to = (link_takes old node parent name none).0 in
      let above : is_directory_at (node_at old parent) ≡ true = ap is_directory_at to.is ∙ to.dir in
      let found : node_at mid n ≡ Some node =
      kinds_apart old n parent f (ap is_directory_at is ∙ free.0) above ∙ is in
      let slims = slims-with_names old parent f in
      let stays = (slim named slims).within in
      let same : named.inodes ≡ old.inodes = changed_inodes old parent
      (λ (x : Node). record x { children = f x.children; mtime = old.now; ctime = old.now })
      (node_at old parent) in
      let nodes = ap (λ l. l.nodes) slims.limits in
      let more = linked old.now node in
      let weights = sum_by-set_value weight (is_at (nat_cmp n)) named.nodes node more found in
      let counts = sum_by-set_value inodes_of (is_at (nat_cmp n)) named.nodes node more found in
      let short = short-found named.limits.file (is_at (nat_cmp n)) named.nodes node stays.files found in
      subst (StaysWithin old) (sym (ap (changed mid n (linked old.now)) found)) (record {
        within = record {
          used = omega (arith, weights, stays.used);
          bytes = stays.bytes;
          counted = omega (arith, counts, stays.counted);
          inodes = omega (arith, same, place, nodes);
          files = short-set_value named.limits.file (is_at (nat_cmp n)) named.nodes more stays.files
              short;
        };
        limits = slims.limits;
      })
    where
      -- the first name counts for nothing, and for another there is a place
      has_place : (t : Bool) → (node.names == 0) ≡ t → (not t && nat_le old.limits.nodes old.inodes) ≡ false
          → old.inodes + min node.names 1 ≤ max 1 old.limits.nodes
      has_place true zero is = omega (arith, eqb-true node.names 0 zero, within.inodes)
      has_place false some is = omega (arith, leb-false old.limits.nodes old.inodes is)

  pub covers : Covers old (λ taken reply left. StaysWithin old left)
  covers = record {
    same = λ reply none. slim old (slims_itself old);
    looked_up = λ n node is.
        slim _ (slims-with_node old n node _ is (record { same = refl; short = λ most h. h }) refl);
    reads = λ n node reply read is.
        slim _ (slims-with_node old n node _ is (record { same = refl; short = λ most h. h }) refl);
    forgot = λ pairs reply told. slim _ (slims-all_forgotten old pairs);
    began = λ offered pairs reply told.
        let left = all_forgotten old pairs in
        let stays = slim left (slims-all_forgotten old pairs) in record {
          within = told_within left left.now offered stays.within;
          limits = stays.limits;
        };
    resizes = λ n was now reply told is r. resizes n was now is r;
    makes = λ reply is. makes;
    makes_nameless = λ reply is. makes_nameless;
    links = links;
    unlinks = λ parent name child node there found is file.
        slim _ (slims-taken_out old parent name child);
    removes = λ parent name child node there found is empty.
        slim _ (slims-taken_out old parent name child);
    renames = renames;
  }

pub calls_stay_within : CallsStayWithin
calls_stay_within old new call answer sound within allowed =
    let stays = calls_covered old new (StaysWithin old) (covers old sound within) call answer allowed in
    (stays.within, stays.limits)
