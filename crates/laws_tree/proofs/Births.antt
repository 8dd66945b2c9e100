-- Calls keep the time at which each node was made.
use Rattle.std.proofs.Common.{◌≡◌, ◌-◌, ◌==◌, ◌&&◌, min, ℕ, inl, inr, Bool, true, false, List, [], ◌∷◌, Option, Some, None, IfSome, is_some, refl, sym, ap, subst, ◌∙◌, if◌then◌else◌, nat_le}
use Rattle.std.proofs.lemmas.Option.{none-some, same_Some}
use Rattle.vfs_files.specs.declared.entry.Context.{Context}
use Rattle.fs_tree.specs.Children.{Children, leading}
use Rattle.fs_tree.specs.Node.{accessed, new_node}
use Rattle.fs_tree.specs.Rename.{moved_into, whiteout, renamed}
use Rattle.fs_tree.specs.State.{State, node_at, child_at, with_node, with_new, with_resized, without_node, change, lead, settled}
use Rattle.fs_tree.specs.Tree.{all_forgotten, linked, outcome, taken_out}
use Rattle.fs_nodes.specs.declared.children.Child.{Child}
use Rattle.fs_nodes.specs.declared.node.Node.{Node}
use Rattle.laws_tree.specs.Laws.{CallsKeepBirths, IsBorn, IsSound}
use Rattle.fs_tree.proofs.Nodes.{node_at-with_node, node_at-with_node_other, node_at-without_node_other, node_at-with_new, node_at-with_new_other, changed, with_names}
use Rattle.laws_tree.proofs.Cases.{Covers, Fails, Leaves, covered, left_so, more_inodes}
use Rattle.laws_tree.proofs.Changes.{forgotten_at, made, nameless, unnamed_at, white_of, begun, back_of, laid, left_with}
use Rattle.laws_tree.proofs.Held.{at, settles, sound_counted}
use Rattle.laws_tree.proofs.Keeping.{keeps-begun, keeps-laid, keeps-with_names}
use Rattle.laws_tree.proofs.Tables.{free_number, gone_number}

-- ---- changes that make no node

-- a node was there, with the same birth
abbrev WasSo : State → (number : ℕ) → Node → Type 0
WasSo old n node = (was : Node) × (node_at old n ≡ Some was) × (node.btime ≡ was.btime)

-- each that is there was there, with the same birth
record Kept (old new : State) : Type 0 where
  now : new.now ≡ old.now
  each : (n : ℕ) (node : Node) → node_at new n ≡ Some node → WasSo old n node

kept_itself : (s : State) → Kept s s
kept_itself s = record { now = refl; each = λ n node is. (node, is, refl) }

kept_both : (a b c : State) → Kept a b → Kept b c → Kept a c
kept_both a b c first second = record {
  now = second.now ∙ first.now;
  each = λ n node is.
      let mid = second.each n node is in
      let old = first.each n mid.0 mid.1 in (old.0, old.1, mid.2 ∙ old.2);
}

module _ (s : State) (n : ℕ) (node : Node) where
  kept-with_node : (was : Node) → node_at s n ≡ Some was → node.btime ≡ was.btime → Kept s (with_node s n node)
  kept-with_node was is same = record {
    now = refl;
    each = λ m other e. at n m (WasSo s m other)
        (λ here.
        let found : node ≡ other = same_Some node other (sym (node_at-with_node s n n node was is)
        ∙ ap (node_at (with_node s n node)) here ∙ e) in
        (was, ap (node_at s) (sym here) ∙ is, ap (λ (x : Node). x.btime) (sym found) ∙ same))
        (λ apart. (other, sym (node_at-with_node_other s n m node apart) ∙ e, refl));
  }

  kept-without_node : IsSound s → Kept s (without_node s n node)
  kept-without_node sound = record {
    now = refl;
    each = λ m other e. at n m (WasSo s m other)
        (λ here. absurd (none-some other (sym (gone_number s n node sound)
        ∙ ap (node_at (without_node s n node)) here ∙ e)))
        (λ apart. (other, sym (node_at-without_node_other s n m node apart) ∙ e, refl));
  }

  kept-settled : (was : Node) → node_at s n ≡ Some was → node.btime ≡ was.btime → IsSound s
      → Kept s (settled s n node)
  kept-settled was is same sound = by (node.names == 0 && node.lookups == 0)
    where
      by : (t : Bool) → Kept s (if t then without_node s n node else with_node s n node)
      by true = kept-without_node sound
      by false = kept-with_node was is same

-- a change of a node that does not move its birth
kept-changed : (s : State) (n : ℕ) (f : Node → Node) → ((node : Node) → (f node).btime ≡ node.btime)
    → (o : Option Node) → node_at s n ≡ o → Kept s (changed s n f o)
kept-changed s n f plain None is = kept_itself s
kept-changed s n f plain (Some node) is = kept-with_node s n (f node) node is (plain node)

kept-change : (s : State) (n : ℕ) (f : Node → Node) → ((node : Node) → (f node).btime ≡ node.btime)
    → Kept s (change s n f)
kept-change s n f plain = kept-changed s n f plain (node_at s n) refl

kept-with_names : (s : State) (d : ℕ) (f : Children → Children) → Kept s (with_names s d f)
kept-with_names s d f = kept-change s d _ (λ node. refl)

kept-moved_into : (s : State) (n d : ℕ) → Kept s (moved_into s n d)
kept-moved_into s n d = kept-change s n _ (λ node. refl)

kept-resized : (s : State) (n : ℕ) (was now : Node) → node_at s n ≡ Some was → now.btime ≡ was.btime
    → Kept s (with_resized s n was now)
kept-resized s n was now is same =
    let k = kept-with_node s n now was is same in record { now = k.now; each = k.each }

kept-counted : (s t : State) (inodes : ℕ) → Kept (record s { inodes = inodes }) t → Kept s t
kept-counted s t inodes k = record { now = k.now; each = k.each }

kept-unnamed : (s : State) (n : ℕ) (o : Option Node) → node_at s n ≡ o → IsSound s → Kept s (unnamed_at s n o)
kept-unnamed s n None is sound = kept_itself s
kept-unnamed s n (Some node) is sound =
    let less = s.inodes - min (node.names - 1) 1 in
    let left : Node = record node { names = node.names - 1; ctime = s.now } in
    kept-counted s (unnamed_at s n (Some node)) less
    (kept-settled (record s { inodes = less }) n left node is refl (sound_counted s less sound))

kept-taken_out : (s : State) (parent : ℕ) (name : List ℕ) (child : Child) → IsSound s
    → Kept s (taken_out s parent name child)
kept-taken_out s parent name child sound =
    let rest = with_names s parent (leading name true None) in
    kept_both s rest (taken_out s parent name child) (kept-with_names s parent _)
    (kept-unnamed rest child.node (node_at rest child.node) refl (keeps-with_names s parent _ sound).sound)

-- lookups are taken back
record Forgets (old new : State) : Type 0 where
  sound : IsSound new
  kept : Kept old new

forgets : (s : State) (n count : ℕ) (o : Option Node) → node_at s n ≡ o → IsSound s
    → Forgets s (forgotten_at s n count o)
forgets s n count None is sound = record { sound = sound; kept = kept_itself s }
forgets s n count (Some node) is sound =
    let left : Node = record node { lookups = node.lookups - count } in
    record {
      sound = (settles s n node left is sound).stays;
      kept = kept-settled s n left node is refl sound;
    }

forgets_all : (s : State) (pairs : List (ℕ × ℕ)) → IsSound s → Kept s (all_forgotten s pairs)
forgets_all s [] sound = kept_itself s
forgets_all s (r ∷ rs) sound =
    let mid = forgotten_at s r.0 r.1 (node_at s r.0) in
    let first = forgets s r.0 r.1 (node_at s r.0) refl sound in
    kept_both s mid (all_forgotten mid rs) first.kept (forgets_all mid rs first.sound)

-- ---- changes that make one

record Births (old new : State) : Type 0 where
  now : new.now ≡ old.now
  each : (n : ℕ) (node : Node) → node_at new n ≡ Some node → IsBorn old n node

of_kept : (old new : State) → Kept old new → Births old new
of_kept old new k = record { now = k.now; each = λ n node is. inl (k.each n node is) }

births_then : (a b c : State) → Births a b → Kept b c → Births a c
births_then a b c first second = record {
  now = second.now ∙ first.now;
  each = λ n node is. let mid = second.each n node is in more n node mid.0 mid.2 (first.each n mid.0 mid.1);
}
  where
    more : (n : ℕ) (node mid : Node) → node.btime ≡ mid.btime → IsBorn a n mid → IsBorn a n node
    more n node mid same (inl was) = inl (was.0, was.1, same ∙ was.2)
    more n node mid same (inr new) = inr (new.0, same ∙ new.1)

births-with_new : (s : State) (node : Node) → node.btime ≡ s.now → IsSound s → Births s (with_new s node)
births-with_new s node born sound = record {
  now = refl;
  each = λ m other e. at s.next m (IsBorn s m other)
      (λ here.
      let found : node ≡ other = same_Some node other (sym (node_at-with_new s s.next node)
      ∙ ap (node_at (with_new s node)) here ∙ e) in
      inr (ap (node_at s) (sym here) ∙ free_number s node sound, ap (λ (x : Node). x.btime) (sym found) ∙ born))
      (λ apart. inl (other, sym (node_at-with_new_other s m node apart) ∙ e, refl));
}

births-begun : (s : State) (ctx : Context) (od flags : ℕ) → IsSound s → Births s (begun s (white_of s ctx od flags))
births-begun s ctx od flags sound = by (nat_le 4 flags)
  where
    by : (t : Bool) → Births s (begun s (if t then Some (whiteout s ctx od) else None))
    by true = births-with_new s (whiteout s ctx od) refl sound
    by false = of_kept s s (kept_itself s)

kept-laid : (s : State) (od : ℕ) (on : List ℕ) (nd : ℕ) (nn : List ℕ) (back target : Option Child) (child : Child)
    → Kept s (laid s od on nd nn back target child)
kept-laid s od on nd nn back target child =
    let first = lead s nd nn (is_some target) (Some child) in
    let second = lead first od on true back in
    let last = laid s od on nd nn back target child in
    kept_both s first last (kept-with_names s nd _)
    (kept_both first second last (kept-with_names first od _) (kept-moved_into second child.node nd))

kept-left_with : (s : State) (exchanges : Bool) (od : ℕ) (target : Option Child) → IsSound s
    → Kept s (left_with s exchanges od target)
kept-left_with s exchanges od None sound = kept_itself s
kept-left_with s true od (Some old) sound = kept-moved_into s old.node od
kept-left_with s false od (Some old) sound = kept-unnamed s old.node (node_at s old.node) refl sound

births-renamed : (s : State) (ctx : Context) (od : ℕ) (on : List ℕ) (nd : ℕ) (nn : List ℕ) (flags : ℕ)
    (target : Option Child) (child : Child) → IsSound s → Births s (renamed s ctx od on nd nn flags target child)
births-renamed s ctx od on nd nn flags target child sound =
    let white = white_of s ctx od flags in
    let mid = begun s white in
    let back = back_of s (flags == 2) white target in
    let there = laid mid od on nd nn back target child in
    let last = left_with there (flags == 2) od target in
    let begins = keeps-begun s ctx od flags sound in
    births_then s mid last (births-begun s ctx od flags sound)
    (kept_both mid there last (kept-laid mid od on nd nn back target child)
    (kept-left_with there (flags == 2) od target
    (keeps-laid mid od on nd nn back target child begins.sound).sound))

-- ---- calls

covers : (old : State) → IsSound old → Covers old (λ taken reply left. Births old left)
covers old sound = record {
  same = λ reply told. of_kept old old (kept_itself old);
  looked_up = λ n node is. of_kept old _ (kept-with_node old n _ node is refl);
  reads = λ n node reply read is. of_kept old _ (kept-with_node old n (accessed old.now node) node is refl);
  forgot = λ pairs reply told. of_kept old _ (forgets_all old pairs sound);
  began = λ offered pairs reply told. let k = forgets_all old pairs sound in
      of_kept old _ (record { now = k.now; each = k.each });
  resizes = λ n was now reply told is r. of_kept old _ (kept-resized old n was now is r.birth);
  makes = λ reply is uid gid kind permissions parent name text none.
      let node = new_node old.now uid gid kind permissions parent text in
      births_then old (with_new old node) (made old parent name node) (births-with_new old node refl sound)
      (kept-with_names (with_new old node) parent _);
  makes_nameless = λ reply is uid gid permissions parent name is_linkable none.
      births-with_new old (nameless old.now uid gid permissions parent is_linkable) refl sound;
  links = λ n node parent name is none.
      let child : Child = record { node = n; kind = node.kind } in
      let mid = with_names old parent (leading name false (Some child)) in
      let named = more_inodes (min node.names 1) mid in
      let k = kept-with_names old parent (leading name false (Some child)) in
      let counted : Kept old named = record { now = k.now; each = k.each } in
      of_kept old _ (kept_both old named (change named n (linked old.now)) counted
      (kept-change named n (linked old.now) (λ node. refl)));
  unlinks = λ parent name child node there found is file. of_kept old _ (kept-taken_out old parent name child sound);
  removes = λ parent name child node there found is empty. of_kept old _ (kept-taken_out old parent name child sound);
  renames = λ ctx od on nd nn flags child r.
      births-renamed old ctx od on nd nn flags (child_at old nd nn) child sound;
}

each_is : (old new : State) (n : ℕ) (o : Option Node) → node_at new n ≡ o → Births old new → IfSome o (IsBorn old n)
each_is old new n None is b = tt
each_is old new n (Some node) is b = b.each n node is

pub calls_keep_births : CallsKeepBirths
calls_keep_births old new call handed sound allowed =
    let b : Births old new =
    left_so old new (Fails old call) (Leaves old (λ taken reply left. Births old left) (covers old sound) call)
    (outcome old call) handed (Births old new)
    (λ fails error is same. subst (Births old) (sym same) (of_kept old old (kept_itself old)))
    (λ reply replies leaves. leaves.1)
    (covered old (λ taken reply left. Births old left) (covers old sound) call) allowed in
    λ n. each_is old new n (node_at new n) refl b
