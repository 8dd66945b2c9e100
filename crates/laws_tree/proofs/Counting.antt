-- Lookups over runs.
use Rattle.std.proofs.Common.{◌≡◌, ◌≤◌, ◌<◌, ◌+◌, ◌||◌, ⊎_elim, ℕ, zero, suc, Bool, true, false, List, [], ◌∷◌, take, Option, Some, None, IsSome, IfSome, refl, sym, ap, subst, arith, if◌then◌else◌}
use Rattle.std.specs.List.{list_any}
use Rattle.vfs_files.specs.Values.{Item}
use Rattle.vfs_files.specs.Calls.{Call, Forget, BatchForget, Answer, Plain}
use Rattle.vfs_files.specs.Runs.{Event, Called, OpenedDirectory, Taken, IsRun}
use Rattle.vfs_grammar.specs.Books.{answered, sent, answered_by, sent_by, answered_nodes, forgets_of, times, forgotten, KeepsBooks}
use Rattle.vfs_grammar.specs.Turn.{Turn, events_in}
use Rattle.vfs_grammar.proofs.Keeping.{never_below_over}
use Rattle.laws_history.specs.History.{NeverBelowHeld}
use Rattle.laws_tree.specs.Laws.{IsTree, IsHeld, lookups_in, lookups_of, names_of, CallsKeepTrees, ReadingsMoveATime}
use Rattle.vfs_files.specs.Listing.{GivesFirst}
use Rattle.fs_tree.specs.State.{State, node_at}
use Rattle.fs_nodes.specs.declared.node.Node.{Node}
use Rattle.fs_tree.specs.Tree.{TreeAllows}
use Rattle.laws_tree.specs.Runs.{takes_all, since, held_before, last_turns, held_by_last, RunsKeepTrees, KeepsTree, LeavesNone}
use Rattle.laws_tree.proofs.Clients.{none_since, LastTurns}
use Rattle.laws_tree.proofs.Endings.{IsOrdinary, IsEnding, which}
use Rattle.std.proofs.lemmas.List.Sums.{sum_by-append}

-- no call gives lookups and takes some back
takes_alone : (n held : ℕ) (call : Call) (answer : Answer)
    → forgotten n (forgets_of call) ≤ held + times n (answered_nodes call answer)
    → forgotten n (forgets_of call) ≤ held
takes_alone n held (Forget _ _ _) answer within = omega (arith, within)
takes_alone n held (BatchForget _ _) answer within = omega (arith, within)
takes_alone n held _ answer within = omega arith

-- ---- events one by one

answered_more : (n : ℕ) (e : Event) (es : List Event)
    → answered n (e ∷ es) ≡ answered_by n e + answered n es
answered_more n e es = omega (arith, sum_by-append (answered_by n) (e ∷ []) es)

sent_more : (n : ℕ) (e : Event) (es : List Event) → sent n (e ∷ es) ≡ sent_by n e + sent n es
sent_more n e es = omega (arith, sum_by-append (sent_by n) (e ∷ []) es)

-- the first event sends no more back than were held and it answers
first_enough : (n held : ℕ) (e : Event) (es : List Event) → NeverBelowHeld n held (e ∷ es)
    → sent_by n e ≤ held + answered_by n e
first_enough n held e es enough = omega (arith, enough 1, sent_more n e [], answered_more n e [])

-- and so it goes on with what is held then
rest_enough : (n held now : ℕ) (e : Event) (es : List Event) → NeverBelowHeld n held (e ∷ es)
    → now + sent_by n e ≡ held + answered_by n e → NeverBelowHeld n now es
rest_enough n held now e es enough is k =
    omega (arith, enough (suc k), sent_more n e (take k es), answered_more n e (take k es), is)

-- ---- runs

-- that many lookups of a node are held, which were `held` before these events
abbrev pub Holds : (new : State) (held : ℕ) → List Event → (n : ℕ) → Type 0
Holds new held events n =
    NeverBelowHeld n held events → lookups_of new n + sent n events ≡ held + answered n events

-- a tree, in which of each node that many lookups are held
pub record Counted (old new : State) (events : List Event) : Type 0 where
  pub tree : IsTree new
  pub lookups : (n : ℕ)
      → Holds new (held_before (list_any takes_all events) old n) (since takes_all events) n

-- what an event does to the lookups of a node
record Counts (old mid : State) (e : Event) (n : ℕ) : Type 0 where
  pub goes_on : takes_all e ≡ false → sent_by n e ≤ lookups_of old n + answered_by n e
      → lookups_of mid n + sent_by n e ≡ lookups_of old n + answered_by n e
  pub ends : takes_all e ≡ true → lookups_of mid n ≡ 0

-- one event, and then the others
counted_more : (old mid new : State) (e : Event) (es : List Event)
    → ((n : ℕ) → Counts old mid e n) → Counted mid new es → Counted old new (e ∷ es)
counted_more old mid new e es first rest = record {
  tree = rest.tree;
  lookups = λ n. by n (list_any takes_all es) (takes_all e) refl refl;
}
  where
    -- all were taken back among the others
    later : (n : ℕ) → list_any takes_all es ≡ true → Holds new 0 (since takes_all es) n
    later n some =
        subst (λ (b : Bool). Holds new (held_before b mid n) (since takes_all es) n) some
        (rest.lookups n)

    -- none were
    whole : (n : ℕ) → list_any takes_all es ≡ false → Holds new (lookups_of mid n) es n
    whole n none =
        subst (λ (l : List Event). Holds new (lookups_of mid n) l n) (none_since takes_all es none)
        (subst (λ (b : Bool). Holds new (held_before b mid n) (since takes_all es) n) none
        (rest.lookups n))

    by : (n : ℕ) (b t : Bool) → list_any takes_all es ≡ b → takes_all e ≡ t
        → Holds new (held_before (t || b) old n)
        (if b then since takes_all es else if t then es else e ∷ es) n
    by n true true some is = later n some
    by n true false some is = later n some
    by n false true none is =
        subst (λ k. Holds new k es n) ((first n).ends is) (whole n none)
    by n false false none is = λ enough.
        let one = (first n).goes_on is (first_enough n (lookups_of old n) e es enough) in
        let others = whole n none
        (rest_enough n (lookups_of old n) (lookups_of mid n) e es enough one) in
        omega (arith, one, others, sent_more n e es, answered_more n e es)

module _ (law : CallsKeepTrees) (readings : ReadingsMoveATime) where
  -- a call
  call_counts : (old mid : State) (call : Call) (answer : Answer) → IsTree old
      → TreeAllows old call (Plain answer) mid → (n : ℕ) → Counts old mid (Called call answer) n
  call_counts old mid call answer tree allowed n =
      let counts_law = (law old mid call answer tree allowed).2 n in
      ⊎_elim
      (λ (o : IsOrdinary old call answer). record {
        goes_on = λ is within.
            let taken = o.taken n in
            let alone = takes_alone n (lookups_of old n) call answer within in
            let counted = counts_law (omega (arith, taken, alone)) in
            omega (arith, counted, taken);
        ends = λ is. cc (o.goes_on, is);
      })
      (λ (e : IsEnding old call answer). record {
        goes_on = λ is within. cc (e.ends, is);
        ends = λ is.
            let taken = e.taken n in
            let counted = counts_law (omega (arith, taken)) in
            omega (arith, counted, taken, ap (times n) e.gives);
      })
      (which old call answer)

  -- what no call does
  still_counts : (old mid : State) (e : Event) → takes_all e ≡ false
      → ((n : ℕ) → lookups_of mid n ≡ lookups_of old n) → ((n : ℕ) → (sent_by n e ≡ 0) × (answered_by n e ≡ 0)) → (n : ℕ) → Counts old mid e n
  still_counts old mid e calm same none n = record {
    goes_on = λ is within. omega (arith, same n, (none n).0, (none n).1);
    ends = λ is. cc (calm, is);
  }

  pub counted : (it : Option (List Item)) (old new : State) (events : List Event) → IsTree old
      → IsRun TreeAllows GivesFirst it old events new → Counted old new events
  counted it old new [] tree ran =
      subst (λ s. Counted old s []) (sym ran)
      (record { tree = tree; lookups = λ n enough. refl })
  counted it old new (Called call answer ∷ es) tree ran =
      counted_more old ran.0 new (Called call answer) es
      (call_counts old ran.0 call answer tree ran.1)
      (counted it ran.0 new es (law old ran.0 call answer tree ran.1).0 ran.2)
  counted it old new (OpenedDirectory call ∷ es) tree ran =
      let leaves = (readings old ran.0 call ran.1 ran.2).1 in
      counted_more old ran.0 new (OpenedDirectory call) es
      (still_counts old ran.0 (OpenedDirectory call) refl leaves.lookups (λ n. (refl, refl)))
      (counted (Some ran.1) ran.0 new es (leaves.tree tree) ran.3)
  counted it old new (Taken item ∷ es) tree ran =
      counted_more old old new (Taken item) es
      (still_counts old old (Taken item) refl (λ n. refl) (λ n. (refl, refl)))
      (counted (Some ran.1) old new es tree ran.4)

  pub runs_keep_trees : RunsKeepTrees
  runs_keep_trees it old new events tree ran =
      let c = counted it old new events tree ran in
      (c.tree, λ n never. c.lookups n (λ k. omega (arith, never k)))

-- ---- turns

module _ (old new : State) (turns : List Turn) (c : Counted old new (events_in turns))
    (last : LastTurns turns) (books : KeepsBooks (last_turns turns)) where
  -- that many lookups are held after the turns of the last client
  counts_turns : (n : ℕ)
      → Holds new (held_by_last old turns n) (events_in (last_turns turns)) n
  counts_turns n =
      subst (λ (any : Bool). Holds new (held_before any old n) (events_in (last_turns turns)) n)
      last.any
      (subst (λ (es : List Event).
      Holds new (held_before (list_any takes_all (events_in turns)) old n) es n) last.events
      (c.lookups n))

  pub keeps_tree : KeepsTree old turns new
  keeps_tree = record {
    tree = c.tree;
    lookups = λ n some within.
        let balanced = books.balanced n some in
        let never = never_below_over _ books n some within in
        let counts = counts_turns n (λ k. omega (arith, never k)) in
        omega (arith, balanced, counts);
  }

-- a node that is held by no lookup has a name
named : (o : Option Node) → IfSome o IsHeld → lookups_in o ≡ 0 → IsSome o → 0 < names_of o
named None held none some = cc some
named (Some node) held none some = by (node.names) refl
  where
    by : (names : ℕ) → node.names ≡ names → 0 < names
    by zero is = absurd (omega (arith, held is, none))
    by (suc k) is = omega arith

pub leaves_none : (old new : State) (turns : List Turn) → KeepsTree old turns new
    → LeavesNone old turns new
leaves_none old new turns keeps n some client there =
    let lookups = keeps.lookups n some client.within in
    let none : lookups_of new n ≡ 0 =
    omega (arith, lookups, client.nothing, client.all) in
    named (node_at new n) (keeps.tree.sound.held n) none there
