-- Calls keep a sound state sound, and count lookups.
use Rattle.std.proofs.Common.{rules, tests, nat_cmp, is_eq, true, false, ⊎_elim, ◌≡◌, ◌≢◌, ◌≤◌, ◌+◌, ◌-◌, ◌==◌, min, ℕ, List, [], ◌∷◌, Option, Some, None, IsSome, is_some, refl, sym, ap, subst, ◌∙◌, arith, if◌then◌else◌}
use Rattle.std.specs.BTreeMap.{is_at}
use Rattle.std.specs.Map.{lookup}
use Rattle.std.proofs.lemmas.Bool.{cond-true, cond-false}
use Rattle.std.proofs.lemmas.Cmp.{nat_cmp_total, tied_itself}
use Rattle.std.proofs.lemmas.List.Sums.{sum_by-append}
use Rattle.vfs_files.specs.Values.{Item}
use Rattle.vfs_files.specs.Calls.{Call, Answer, Handed, Plain, Iterator}
use Rattle.vfs_grammar.specs.Books.{times, forgotten}
use Rattle.fs_tree.specs.Children.{leading}
use Rattle.fs_tree.specs.Node.{accessed, new_node}
use Rattle.fs_tree.specs.State.{State, node_at, child_at, with_node, with_resized, with_new}
use Rattle.fs_tree.specs.Tree.{linked, all_forgotten, outcome}
use Rattle.fs_nodes.specs.declared.children.Child.{Child}
use Rattle.fs_nodes.specs.declared.node.Node.{Node}
use Rattle.laws_tree.specs.Laws.{Ascend, lookups_in, lookups_of, taken_back, IsSound, CountsLookups, CallsAreSound}
use Rattle.fs_tree.proofs.Nodes.{is_at_other, changed, with_names}
use Rattle.laws_tree.proofs.Ascending.{none_below}
use Rattle.laws_tree.proofs.Endings.{IsOrdinary, IsEnding, which}
use Rattle.laws_tree.proofs.Cases.{Covers, Fails, IsTold, Reads, Leaves, taken_pairs, more_inodes, covered, left_so, nodes_of, handed_nodes}
use Rattle.laws_tree.proofs.Held.{at, sound_counted, lookups_here, lookups_other, none_yet, lookups_new, lookups_new_other, sound-with_node, sound-with_new, settles}
use Rattle.laws_tree.proofs.Keeping.{there-change, Keeps, keeps_itself, keeps-with_node, keeps-with_names, keeps-taken_out, keeps-renamed, keeps-resized}
use Rattle.laws_tree.proofs.Changes.{forgotten_at, made, held_of, nameless}
use Rattle.laws_tree.proofs.Telling.{told_sound}

-- a sound state, in which that many lookups are held as were, with those that were given and without those
-- that were taken back
pub record Counts (old new : State) (taken : List (ℕ × ℕ)) (given : List ℕ) : Type 0 where
  pub sound : IsSound new
  pub lookups : (m : ℕ) → forgotten m taken ≤ lookups_of old m
      → lookups_of new m + forgotten m taken ≡ lookups_of old m + times m given

quiet : (old new : State) → Keeps old new → Counts old new [] []
quiet old new keeps = record {
  sound = keeps.sound;
  lookups = λ m within. omega (arith, keeps.lookups m);
}

-- ---- entries

times_here : (n m : ℕ) → n ≡ m → times m (n ∷ []) ≡ 1
times_here n m e = search (rules, tests)

times_other : (n m : ℕ) → m ≢ n → times m (n ∷ []) ≡ 0
times_other n m apart = search (rules, tests)

-- one lookup more of a node is held
one_more : (old new : State) (n : ℕ) → IsSound new → lookups_of new n ≡ lookups_of old n + 1
    → ((m : ℕ) → m ≢ n → lookups_of new m ≡ lookups_of old m) → Counts old new [] (n ∷ [])
one_more old new n sound here other = record {
  sound = sound;
  lookups = λ m within. at n m (lookups_of new m + 0 ≡ lookups_of old m + times m (n ∷ []))
      (λ e. let held = subst (λ k. lookups_of new k ≡ lookups_of old k + 1) e here in
      omega (arith, times_here n m e, held))
      (λ apart. omega (arith, times_other n m apart, other m apart));
}

-- LOOKUP
finds : (s : State) (n : ℕ) (node : Node) → node_at s n ≡ Some node → IsSound s
    → Counts s (with_node s n (record node { lookups = node.lookups + 1 })) [] (n ∷ [])
finds s n node is sound =
    one_more s (with_node s n (record node { lookups = node.lookups + 1 })) n
    (sound-with_node s n node _ is sound (λ zero. omega arith))
    (lookups_here s n node _ is ∙ ap (λ k. k + 1) (sym (ap lookups_in is)))
    (lookups_other s n node _ is)

-- the new node of MKDIR and the like
makes : (s : State) (parent : ℕ) (name : List ℕ) (node : Node) → IsSound s → node.lookups ≡ 1
    → Counts s (made s parent name node) [] (s.next ∷ [])
makes s parent name node sound one =
    let middle = with_new s node in
    let last = made s parent name node in
    let there : IsSound middle = sound-with_new s node sound (λ zero. omega (arith, one)) in
    let keeps : Keeps middle last = keeps-with_names middle parent _ there in
    one_more s last s.next keeps.sound
    (keeps.lookups s.next ∙ lookups_new s node sound ∙ one
    ∙ ap (λ n. n + 1) (sym (none_yet s node sound)))
    (λ m apart. keeps.lookups m ∙ lookups_new_other s node sound m apart)

-- the new file of a TMPFILE
makes_nameless : (s : State) (node : Node) → IsSound s → node.lookups ≡ 1
    → Counts s (with_new s node) [] (s.next ∷ [])
makes_nameless s node sound one =
    one_more s (with_new s node) s.next (sound-with_new s node sound (λ zero. omega (arith, one)))
    (lookups_new s node sound ∙ one ∙ ap (λ n. n + 1) (sym (none_yet s node sound)))
    (lookups_new_other s node sound)

-- LINK
module _ (s : State) (n : ℕ) (node : Node) (parent : ℕ) (name : List ℕ) (sound : IsSound s)
    (is : node_at s n ≡ Some node) where
  abbrev named : State
  named =
      let child : Child = record { node = n; kind = node.kind } in
      more_inodes (min node.names 1) (with_names s parent (leading name false (Some child)))

  keeps-named : Keeps s named
  keeps-named =
      let child : Child = record { node = n; kind = node.kind } in
      let mid = with_names s parent (leading name false (Some child)) in
      let keeps : Keeps s mid = keeps-with_names s parent _ sound in
      record { sound = sound_counted mid (mid.inodes + min node.names 1) keeps.sound; lookups = keeps.lookups }

  -- one lookup more of the node that is there now
  links_there : (there : Node) → node_at named n ≡ Some there
      → Counts s (with_node named n (linked s.now there)) [] (n ∷ [])
  links_there there found =
      let more = linked s.now there in
      one_more s (with_node named n more) n
      (sound-with_node named n there more found keeps-named.sound (λ zero. omega arith))
      (lookups_here named n there more found
      ∙ ap (λ k. k + 1) (sym (ap lookups_in found) ∙ keeps-named.lookups n))
      (λ m apart. lookups_other named n there more found m apart ∙ keeps-named.lookups m)

  links_found : (o : Option Node) → node_at named n ≡ o → IsSome o
      → Counts s (changed named n (linked s.now) o) [] (n ∷ [])
  links_found None found some = cc some
  links_found (Some there) found some = links_there there found

  links : Counts s (changed named n (linked s.now) (node_at named n)) [] (n ∷ [])
  links = links_found (node_at named n) refl (there-change s parent n _ (ap is_some is))

-- ---- FORGET

-- that many lookups of a node are taken back
back_here : (n count m : ℕ) → n ≡ m → forgotten m ((n, count) ∷ []) ≡ count
back_here n count m e = search (rules, tests)

back_other : (n count m : ℕ) → m ≢ n → forgotten m ((n, count) ∷ []) ≡ 0
back_other n count m apart = search (rules, tests)

record TakesBack (old new : State) (pairs : List (ℕ × ℕ)) : Type 0 where
  pub sound : IsSound new
  pub lookups : (m : ℕ) → forgotten m pairs ≤ lookups_of old m
      → lookups_of new m + forgotten m pairs ≡ lookups_of old m

forgets : (s : State) (n count : ℕ) (o : Option Node) → node_at s n ≡ o → IsSound s
    → TakesBack s (forgotten_at s n count o) ((n, count) ∷ [])
forgets s n count None is sound = record {
  sound = sound;
  lookups = λ m within. at n m (lookups_of s m + forgotten m ((n, count) ∷ []) ≡ lookups_of s m)
      (λ e. let none : lookups_of s m ≡ 0 = ap lookups_in (ap (node_at s) (sym e) ∙ is) in
      omega (arith, none, within))
      (λ apart. omega (arith, back_other n count m apart));
}
forgets s n count (Some node) is sound =
    let new = forgotten_at s n count (Some node) in
    let left = record node { lookups = node.lookups - count } in
    let done = settles s n node left is sound in
    record {
      sound = done.stays;
      lookups = λ m within.
          at n m (lookups_of new m + forgotten m ((n, count) ∷ []) ≡ lookups_of s m)
          (λ e. let held : lookups_of s m ≡ node.lookups =
          ap lookups_in (ap (node_at s) (sym e) ∙ is) in
          let left : lookups_of new m ≡ node.lookups - count = ap (lookups_of new) (sym e) ∙ done.here in
          omega (arith, back_here n count m e, held, left, within))
          (λ apart. omega (arith, back_other n count m apart, done.other m apart));
    }

-- the pairs one by one
taken_more : (m : ℕ) (r : ℕ × ℕ) (rs : List (ℕ × ℕ))
    → forgotten m (r ∷ rs) ≡ forgotten m ((r.0, r.1) ∷ []) + forgotten m rs
taken_more m r rs = sum_by-append (λ pair. if pair.0 == m then pair.1 else 0) (r ∷ []) rs

forgets_all : (s : State) (pairs : List (ℕ × ℕ)) → IsSound s
    → TakesBack s (all_forgotten s pairs) pairs
forgets_all s [] sound = record { sound = sound; lookups = λ m within. omega arith }
forgets_all s (r ∷ rs) sound =
    let mid = forgotten_at s r.0 r.1 (node_at s r.0) in
    let first = forgets s r.0 r.1 (node_at s r.0) refl sound in
    let rest = forgets_all mid rs first.sound in
    record {
      sound = rest.sound;
      lookups = λ m within.
          let one = first.lookups m (omega (arith, within, taken_more m r rs)) in
          let others = rest.lookups m (omega (arith, within, taken_more m r rs, one)) in
          omega (arith, taken_more m r rs, one, others);
    }

-- ---- calls

told_none : (reply : Handed (List Item)) → IsTold reply → nodes_of reply ≡ []
told_none (Plain answer) told = told
told_none (Iterator items) told = absurd told

read_none : (n : ℕ) (node : Node) (reply : Handed (List Item)) → Reads n node reply → nodes_of reply ≡ []
read_none n node (Plain answer) read = read
read_none n node (Iterator items) read = refl

abbrev pub Counted : State → List (ℕ × ℕ) → Handed (List Item) → State → Type 0
Counted old taken reply left = Counts old left taken (nodes_of reply)

pub covers : (old : State) → IsSound old → Covers old (Counted old)
covers old sound = record {
  same = λ reply told.
      subst (Counts old old []) (sym (told_none reply told)) (quiet old old (keeps_itself old sound));
  looked_up = λ n node is. finds old n node is sound;
  reads = λ n node reply read is.
      let new = with_node old n (accessed old.now node) in
      subst (Counts old new []) (sym (read_none n node reply read))
      (quiet old new (keeps-with_node old n (accessed old.now) (λ node. (refl, refl)) sound node is));
  forgot = λ pairs reply told. let back = forgets_all old pairs sound in record {
    sound = back.sound;
    lookups = λ m within. omega (arith, back.lookups m within, ap (times m) (told_none reply told));
  };
  began = λ offered pairs reply told. let back = forgets_all old pairs sound in record {
    sound = let left = all_forgotten old pairs in told_sound left left.now offered back.sound;
    lookups = λ m within. omega (arith, back.lookups m within, ap (times m) (told_none reply told));
  };
  resizes = λ n was now reply told is r.
      subst (Counts old (with_resized old n was now) []) (sym (told_none reply told))
      (quiet old (with_resized old n was now)
      (keeps-resized old n was now r.lookups r.names sound is));
  makes = λ reply is uid gid kind permissions parent name text none.
      let node = new_node old.now uid gid kind permissions parent text in
      subst (Counts old (made old parent name node) []) (sym is) (makes old parent name node sound refl);
  makes_nameless = λ reply is uid gid permissions parent name is_linkable none.
      let node = nameless old.now uid gid permissions parent is_linkable in
      subst (Counts old (with_new old node) []) (sym is) (makes_nameless old node sound refl);
  links = λ n node parent name is none. links old n node parent name sound is;
  unlinks = λ parent name child node there found is file.
      quiet old _ (keeps-taken_out old parent name child sound);
  removes = λ parent name child node there found is empty.
      quiet old _ (keeps-taken_out old parent name child sound);
  renames = λ ctx od on nd nn flags child r.
      quiet old _ (keeps-renamed old ctx od on nd nn flags (child_at old nd nn) child sound);
}

-- the lookups that a sound state holds of a node are those in its list
counts_held : (from to n : ℕ) (es : List (ℕ × Node)) → Ascend from es to
    → forgotten n (held_of es) ≡ lookups_in (lookup (is_at (nat_cmp n)) es)
counts_held from to n [] a = refl
counts_held from to n (e ∷ es) a =
    let more = taken_more n (e.0, e.1.lookups) (held_of es) in
    let rest = counts_held (e.0 + 1) to n es a.1 in
    let later = lookup (is_at (nat_cmp n)) es in
    at e.0 n (forgotten n (held_of (e ∷ es)) ≡ lookups_in (lookup (is_at (nat_cmp n)) (e ∷ es)))
    (λ same.
    let none = none_below (e.0 + 1) to n es a.1 (omega (arith, same)) in
    let is : is_at (nat_cmp n) e.0 ≡ true =
    ap (is_at (nat_cmp n)) same ∙ ap is_eq (tied_itself nat_cmp_total n) in
    let here = ap lookups_in (cond-true (is_at (nat_cmp n) e.0) (Some e.1) later is) in
    omega (arith, more, back_here e.0 e.1.lookups n same, rest, ap lookups_in none, here))
    (λ apart.
    let other = ap lookups_in
    (cond-false (is_at (nat_cmp n) e.0) (Some e.1) later (is_at_other n e.0 apart)) in
    omega (arith, more, back_other e.0 e.1.lookups n apart, rest, other))

-- what a call takes back, as pairs
taken_same : (old : State) → IsSound old → (call : Call) (answer : Answer) (n : ℕ)
    → taken_back old call n ≡ forgotten n (taken_pairs old call)
taken_same old sound call answer n =
    ⊎_elim
    (λ (o : IsOrdinary old call answer). o.taken n ∙ ap (forgotten n) (sym o.pairs))
    (λ (e : IsEnding old call answer).
    e.taken n ∙ sym (counts_held 1 old.next n old.nodes sound.ordered) ∙ ap (forgotten n) (sym e.pairs))
    (which old call answer)

pub calls_are_sound : CallsAreSound
calls_are_sound old new call answer sound =
    left_so old new (Fails old call) (Leaves old (Counted old) (covers old sound) call)
    (outcome old call) (Plain answer) (IsSound new × CountsLookups old call answer new)
    (λ fails error is same. (
      subst IsSound (sym same) sound,
      λ n within. omega (
        arith,
        ap (λ s. lookups_of s n) same,
        ap (forgotten n) fails.0,
        taken_same old sound call answer n,
        ap (times n) (ap (handed_nodes call) is ∙ fails.1 error),
      ),
    ))
    (λ reply replies leaves. (
      leaves.1.sound,
      λ n within. omega (
        arith,
        leaves.1.lookups n (omega (arith, within, taken_same old sound call answer n)),
        taken_same old sound call answer n,
        ap (times n) (ap (handed_nodes call) replies ∙ leaves.0),
      ),
    ))
    (covered old (Counted old) (covers old sound) call)
