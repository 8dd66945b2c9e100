-- Changes that keep a state sound and all lookups that are held.
use Rattle.std.proofs.Common.{◌≡◌, ◌≢◌, ◌<◌, ◌-◌, ◌==◌, min, ℕ, Bool, true, false, List, Option, Some, None, IsSome, IfSome, is_some, refl, sym, ap, subst, ◌∙◌, arith, if◌then◌else◌, nat_le}
use Rattle.fs_tree.specs.Children.{Children, leading}
use Rattle.laws_tree.specs.Laws.{lookups_in, lookups_of, IsHeld, IsSound}
use Rattle.fs_tree.specs.Rename.{moved_into, whiteout, renamed}
use Rattle.fs_tree.specs.State.{State, node_at, with_node, with_new, with_resized, change, lead}
use Rattle.fs_tree.specs.Tree.{taken_out}
use Rattle.fs_nodes.specs.declared.children.Child.{Child}
use Rattle.fs_nodes.specs.declared.node.Node.{Node}
use Rattle.fs_tree.proofs.Nodes.{node_at-with_node, node_at-with_node_other, changed, with_names}
use Rattle.laws_tree.proofs.Held.{at, lookups_here, lookups_other, none_yet, lookups_new, lookups_new_other, sound_counted, sound-with_node, sound-with_new, settles}
use Rattle.laws_tree.proofs.Changes.{unnamed_at, white_of, begun, back_of, laid, left_with}
use Rattle.vfs_files.specs.declared.entry.Context.{Context}

pub record Keeps (old new : State) : Type 0 where
  pub sound : IsSound new
  pub lookups : (m : ℕ) → lookups_of new m ≡ lookups_of old m

pub keeps_itself : (s : State) → IsSound s → Keeps s s
keeps_itself s sound = record { sound = sound; lookups = λ m. refl }

pub keeps_both : (a b c : State) → Keeps a b → (IsSound b → Keeps b c) → Keeps a c
keeps_both a b c first more =
    let second = more first.sound in
    record { sound = second.sound; lookups = λ m. second.lookups m ∙ first.lookups m }

-- the lookups of one node are that many, and of others as they were
lookups_at : (s : State) (n m : ℕ) (new : State) (o : Option Node) → node_at s n ≡ o
    → lookups_of new n ≡ lookups_in o → (m ≢ n → lookups_of new m ≡ lookups_of s m)
    → lookups_of new m ≡ lookups_of s m
lookups_at s n m new o is here other =
    at n m (lookups_of new m ≡ lookups_of s m)
    (λ e. subst (λ k. lookups_of new k ≡ lookups_of s k) e (here ∙ sym (ap lookups_in is))) other

-- a change that touches neither names nor lookups
abbrev pub IsPlain : (Node → Node) → Type 0
IsPlain f = (node : Node) → ((f node).lookups ≡ node.lookups) × ((f node).names ≡ node.names)

held_plainly : (f : Node → Node) → IsPlain f → (node : Node) → IsHeld node → IsHeld (f node)
held_plainly f plain node held zero =
    let some : 0 < node.lookups = held (sym (plain node).1 ∙ zero) in
    omega (arith, some, (plain node).0)

module _ (s : State) (n : ℕ) (f : Node → Node) (plain : IsPlain f) (sound : IsSound s) where
  held_before : (node : Node) → node_at s n ≡ Some node → IsHeld node
  held_before node is = subst (λ o. IfSome o IsHeld) is (sound.held n)

  pub keeps-with_node : (node : Node) → node_at s n ≡ Some node → Keeps s (with_node s n (f node))
  keeps-with_node node is = record {
    sound = sound-with_node s n node (f node) is sound
        (held_plainly f plain node (held_before node is));
    lookups = λ m. lookups_at s n m (with_node s n (f node)) (Some node) is
        (lookups_here s n node (f node) is ∙ (plain node).0)
        (lookups_other s n node (f node) is m);
  }

  keeps-changed : (o : Option Node) → node_at s n ≡ o → Keeps s (changed s n f o)
  keeps-changed None is = keeps_itself s sound
  keeps-changed (Some node) is = keeps-with_node node is

  pub keeps-change : Keeps s (change s n f)
  keeps-change = keeps-changed (node_at s n) refl

-- a node that is there is there after a change
there-with_node : (s : State) (n m : ℕ) (was node : Node) → node_at s n ≡ Some was
    → IsSome (node_at s m) → IsSome (node_at (with_node s n node) m)
there-with_node s n m was node is some =
    at n m (IsSome (node_at (with_node s n node) m))
    (λ e. subst (λ k. IsSome (node_at (with_node s n node) k)) e
    (ap is_some (node_at-with_node s n n node was is)))
    (λ apart. ap is_some (node_at-with_node_other s n m node apart) ∙ some)

there-changed : (s : State) (n m : ℕ) (f : Node → Node) (o : Option Node) → node_at s n ≡ o
    → IsSome (node_at s m) → IsSome (node_at (changed s n f o) m)
there-changed s n m f None is some = some
there-changed s n m f (Some node) is some = there-with_node s n m node (f node) is some

pub there-change : (s : State) (n m : ℕ) (f : Node → Node) → IsSome (node_at s m)
    → IsSome (node_at (change s n f) m)
there-change s n m f some = there-changed s n m f (node_at s n) refl some

-- a node with other contents or extended attributes
pub keeps-resized : (s : State) (n : ℕ) (was now : Node) → now.lookups ≡ was.lookups
    → now.names ≡ was.names → IsSound s → node_at s n ≡ Some was
    → Keeps s (with_resized s n was now)
keeps-resized s n was now lookups names sound is =
    let held : IsHeld was = subst (λ o. IfSome o IsHeld) is (sound.held n) in
    let there = sound-with_node s n was now is sound (λ zero.
    let some : 0 < was.lookups = held (sym names ∙ zero) in omega (arith, some, lookups)) in
    record {
      sound = record { ordered = there.ordered; held = there.held };
      lookups = λ m. lookups_at s n m (with_node s n now) (Some was) is
          (lookups_here s n was now is ∙ lookups) (lookups_other s n was now is m);
    }

pub keeps-with_names : (s : State) (d : ℕ) (f : Children → Children) → IsSound s
    → Keeps s (with_names s d f)
keeps-with_names s d f sound = keeps-change s d _ (λ node. (refl, refl)) sound

pub keeps-moved_into : (s : State) (n d : ℕ) → IsSound s → Keeps s (moved_into s n d)
keeps-moved_into s n d sound = keeps-change s n _ (λ node. (refl, refl)) sound

pub keeps-unnamed : (s : State) (n : ℕ) (o : Option Node) → node_at s n ≡ o → IsSound s
    → Keeps s (unnamed_at s n o)
keeps-unnamed s n None is sound = keeps_itself s sound
keeps-unnamed s n (Some node) is sound =
    let new = unnamed_at s n (Some node) in
    let less = s.inodes - min (node.names - 1) 1 in
    let left : Node = record node { names = node.names - 1; ctime = s.now } in
    let done = settles (record s { inodes = less }) n node left is (sound_counted s less sound) in
    record {
      sound = done.stays;
      lookups = λ m. lookups_at s n m new (Some node) is done.here (done.other m);
    }

pub keeps-taken_out : (s : State) (parent : ℕ) (name : List ℕ) (child : Child)
    → IsSound s → Keeps s (taken_out s parent name child)
keeps-taken_out s parent name child sound =
    let rest = with_names s parent (leading name true None) in
    keeps_both s rest (taken_out s parent name child)
    (keeps-with_names s parent _ sound)
    (keeps-unnamed rest child.node (node_at rest child.node) refl)

-- ---- RENAME

-- a new node of which no lookup is held
keeps-with_new : (s : State) (node : Node) → node.names ≡ 1 → node.lookups ≡ 0 → IsSound s
    → Keeps s (with_new s node)
keeps-with_new s node one unheld sound = record {
  sound = sound-with_new s node sound (λ zero. omega (arith, one, zero));
  lookups = λ m. at s.next m (lookups_of (with_new s node) m ≡ lookups_of s m)
      (λ e. subst (λ k. lookups_of (with_new s node) k ≡ lookups_of s k) e
      (lookups_new s node sound ∙ unheld ∙ sym (none_yet s node sound)))
      (lookups_new_other s node sound m);
}

pub keeps-begun : (s : State) (ctx : Context) (od flags : ℕ) → IsSound s
    → Keeps s (begun s (white_of s ctx od flags))
keeps-begun s ctx od flags sound = by (nat_le 4 flags)
  where
    by : (t : Bool) → Keeps s (begun s (if t then Some (whiteout s ctx od) else None))
    by true = keeps-with_new s (whiteout s ctx od) refl refl sound
    by false = keeps_itself s sound

pub keeps-laid : (s : State) (od : ℕ) (on : List ℕ) (nd : ℕ) (nn : List ℕ) (back target : Option Child)
    (child : Child) → IsSound s → Keeps s (laid s od on nd nn back target child)
keeps-laid s od on nd nn back target child sound =
    let first = lead s nd nn (is_some target) (Some child) in
    let second = lead first od on true back in
    let last = laid s od on nd nn back target child in
    keeps_both s first last (keeps-with_names s nd _ sound)
    (λ one. keeps_both first second last (keeps-with_names first od _ one)
    (keeps-moved_into second child.node nd))

keeps-left_with : (s : State) (exchanges : Bool) (od : ℕ) (target : Option Child) → IsSound s
    → Keeps s (left_with s exchanges od target)
keeps-left_with s exchanges od None sound = keeps_itself s sound
keeps-left_with s true od (Some old) sound = keeps-moved_into s old.node od sound
keeps-left_with s false od (Some old) sound =
    keeps-unnamed s old.node (node_at s old.node) refl sound

pub keeps-renamed : (s : State) (ctx : Context) (od : ℕ) (on : List ℕ) (nd : ℕ) (nn : List ℕ)
    (flags : ℕ) (target : Option Child) (child : Child) → IsSound s
    → Keeps s (renamed s ctx od on nd nn flags target child)
keeps-renamed s ctx od on nd nn flags target child sound =
    let white = white_of s ctx od flags in
    let mid = begun s white in
    let back = back_of s (flags == 2) white target in
    let there = laid mid od on nd nn back target child in
    let last = left_with there (flags == 2) od target in
    keeps_both s mid last (keeps-begun s ctx od flags sound)
    (λ one. keeps_both mid there last (keeps-laid mid od on nd nn back target child one)
    (keeps-left_with there (flags == 2) od target))
