-- A tree over histories.
use Rattle.std.proofs.Common.{◌≡◌, ◌≤◌, ◌<◌, ◌+◌, ◌⊎◌, ◌||◌, inl, inr, ℕ, Bool, true, false, List, [], ◌∷◌, ◌++◌, map, None, take, length, refl, sym, ap, subst, ◌∙◌, arith, if◌then◌else◌}
use Rattle.std.specs.List.{list_any}
use Rattle.std.proofs.lemmas.List.{take-append-le, take_all}
use Rattle.std.proofs.Math.Seq.{take-append-add}
use Rattle.std.proofs.lemmas.Bool.Decides.{nat_tests}
use Rattle.std.proofs.lemmas.List.Sums.{sum_by-append}
use Rattle.vfs_files.specs.Listing.{GivesFirst}
use Rattle.vfs_files.specs.Runs.{Event}
use Rattle.vfs_grammar.specs.Books.{answered, sent, answered_by, sent_by, KeepsBooks}
use Rattle.vfs_grammar.specs.Turn.{Turn, AreTurns, events_in}
use Rattle.vfs_grammar.specs.declared.limits.Limits.{Limits}
use Rattle.vfs_server.specs.Step.{ServerState}
use Rattle.laws_history.specs.History.{Moment, Handled, Changed, turns_in, IsHistory, HasTurns, HistoriesKeepBooks, NeverBelowHeld}
use Rattle.fs_tree.specs.State.{State}
use Rattle.fs_tree.specs.Tree.{TreeAllows}
use Rattle.laws_tree.specs.Laws.{IsTree, lookups_of, LeavesLookups, CallsKeepTrees, NewOnesAreTrees, ReadingsMoveATime}
use Rattle.laws_tree.specs.Runs.{takes_all, since, held_before, held_by_last, last_turns}
use Rattle.laws_tree.specs.Histories.{OwnerLeavesLookups, OnlyTold, HistoriesKeepTrees, NewTreesAreKept, TellingLeavesLookups}
use Rattle.laws_tree.proofs.Clients.{none_any, none_since, since_both, last_in_order, last_turns_are}
use Rattle.laws_tree.proofs.Counting.{Counted, Holds, counted, keeps_tree, leaves_none}

-- ---- two lists of events in a row

up_to_or_past : (k m : ℕ) → (k ≤ m) ⊎ (m < k)
up_to_or_past k m = grind (arith, nat_tests)

-- what holds of two lists of events holds of the first
front_enough : (n held : ℕ) (es fs : List Event) → NeverBelowHeld n held (es ++ fs)
    → NeverBelowHeld n held es
front_enough n held es fs enough k =
    elim (up_to_or_past k (length es)) as (λ side. sent n (take k es) ≤ held + answered n (take k es)) [
      | inl short ↦
          let same = take-append-le k es fs short in
          subst (λ (l : List Event). sent n l ≤ held + answered n l) same (enough k)
      | inr long ↦
          let whole : take k es ≡ es = take_all k es (omega (arith, long)) in
          let same = take-append-le (length es) es fs (omega arith) in
          let all : take (length es) es ≡ es = take_all (length es) es (omega arith) in
          subst (λ (l : List Event). sent n l ≤ held + answered n l) (same ∙ all ∙ sym whole)
          (enough (length es))
    ]

-- and of the second, with what is held then
back_enough : (n held now : ℕ) (es fs : List Event) → NeverBelowHeld n held (es ++ fs)
    → now + sent n es ≡ held + answered n es → NeverBelowHeld n now fs
back_enough n held now es fs enough is k =
    let e = enough (length es + k) in
    let parts = take-append-add es fs k in
    let both : sent n (es ++ take k fs) ≤ held + answered n (es ++ take k fs) =
    subst (λ (l : List Event). sent n l ≤ held + answered n l) parts e in
    let s = sum_by-append (sent_by n) es (take k fs) in
    let a = sum_by-append (answered_by n) es (take k fs) in
    omega (arith, both, s, a, is)

holds_both : (mid new : State) (held n : ℕ) (es fs : List Event) → Holds mid held es n
    → Holds new (lookups_of mid n) fs n → Holds new held (es ++ fs) n
holds_both mid new held n es fs first rest enough =
    let one = first (front_enough n held es fs enough) in
    let others = rest (back_enough n held (lookups_of mid n) es fs enough one) in
    let s = sum_by-append (sent_by n) es fs in
    let a = sum_by-append (answered_by n) es fs in
    omega (arith, one, others, s, a)

-- where none was taken back altogether
holds_whole : (old new : State) (es : List Event) (n : ℕ)
    → Holds new (held_before (list_any takes_all es) old n) (since takes_all es) n
    → list_any takes_all es ≡ false → Holds new (lookups_of old n) es n
holds_whole old new es n holds none =
    subst (λ (l : List Event). Holds new (lookups_of old n) l n) (none_since takes_all es none)
    (subst (λ (b : Bool). Holds new (held_before b old n) (since takes_all es) n) none holds)

-- where all were
holds_since : (old new : State) (es : List Event) (n : ℕ)
    → Holds new (held_before (list_any takes_all es) old n) (since takes_all es) n
    → list_any takes_all es ≡ true → Holds new 0 (since takes_all es) n
holds_since old new es n holds some =
    subst (λ (b : Bool). Holds new (held_before b old n) (since takes_all es) n) some holds

counted_both : (old mid new : State) (es fs : List Event) → Counted old mid es → Counted mid new fs
    → Counted old new (es ++ fs)
counted_both old mid new es fs first rest = record {
  tree = rest.tree;
  lookups = λ n.
      subst (λ (b : Bool). Holds new (held_before b old n) (since takes_all (es ++ fs)) n)
      (sym (none_any takes_all es fs))
      (subst (λ (l : List Event).
      Holds new (held_before (list_any takes_all es || list_any takes_all fs) old n) l n)
      (sym (since_both takes_all es fs))
      (by n (list_any takes_all fs) (list_any takes_all es) refl refl));
}
  where
    by : (n : ℕ) (b t : Bool) → list_any takes_all fs ≡ b → list_any takes_all es ≡ t
        → Holds new (held_before (t || b) old n)
        (if b then since takes_all fs
        else if t then since takes_all es ++ fs else es ++ fs) n
    by n true true some is = holds_since mid new fs n (rest.lookups n) some
    by n true false some is = holds_since mid new fs n (rest.lookups n) some
    by n false true none is =
        holds_both mid new 0 n (since takes_all es) fs
        (holds_since old mid es n (first.lookups n) is)
        (holds_whole mid new fs n (rest.lookups n) none)
    by n false false none is =
        holds_both mid new (lookups_of old n) n es fs
        (holds_whole old mid es n (first.lookups n) is)
        (holds_whole mid new fs n (rest.lookups n) none)

-- ---- histories

module _ (law : CallsKeepTrees) (readings : ReadingsMoveATime) where
  history_counts : (old new : ServerState State) (ms : List (Moment State))
      → IsHistory TreeAllows GivesFirst old ms new → OwnerLeavesLookups ms → IsTree old.fs
      → Counted old.fs new.fs (events_in (turns_in ms))
  history_counts old new [] h owner tree =
      subst (λ (s : ServerState State). Counted old.fs s.fs []) (sym h)
      (record { tree = tree; lookups = λ n enough. refl })
  history_counts old new (Handled t ∷ ms) h owner tree =
      let first = counted law readings None old.fs h.0.fs t.events tree h.1.is_run in
      counted_both old.fs h.0.fs new.fs t.events (events_in (turns_in ms)) first
      (history_counts h.0 new ms h.2 owner first.tree)
  history_counts old new (Changed a b ∷ ms) h owner tree =
      let rest = history_counts (record old { fs = b }) new ms h.1 owner.1
      (owner.0.tree (subst IsTree h.0 tree)) in
      let es = events_in (turns_in ms) in
      record {
        tree = rest.tree;
        lookups = λ n.
            let same : lookups_of b n ≡ lookups_of old.fs n =
            owner.0.lookups n ∙ sym (ap (λ (s : State). lookups_of s n) h.0) in
            subst (λ (held : ℕ).
            Holds new.fs (if list_any takes_all es then 0 else held) (since takes_all es) n) same
            (rest.lookups n);
      }

  module _ (has : HasTurns TreeAllows GivesFirst)
      (keep : (limits : Limits) (options after : ℕ) (turns : List Turn)
      → AreTurns limits options turns after → KeepsBooks turns) where
    pub keep_trees : HistoriesKeepTrees
    keep_trees old new ms h owner tree =
        let turns = turns_in ms in
        let are = (has old new ms h).0 in
        let last = last_in_order old.limits old.options turns new.options are in
        let keeps = keeps_tree old.fs new.fs turns (history_counts old new ms h owner tree)
        (last_turns_are old.fs old.limits old.options turns new.options are)
        (keep old.limits last.0 new.options (last_turns turns) last.1) in
        (keeps, leaves_none old.fs new.fs turns keeps)

-- between the requests of a session the owner does nothing
pub none_by_owner : (turns : List Turn) → OwnerLeavesLookups (map Handled turns)
none_by_owner [] = tt
none_by_owner (t ∷ ts) = none_by_owner ts

-- ---- new trees

only_told : TellingLeavesLookups → (ms : List (Moment State)) → OnlyTold ms → OwnerLeavesLookups ms
only_told telling [] told = told
only_told telling (Handled t ∷ ms) told = only_told telling ms told
only_told telling (Changed a b ∷ ms) told =
    (subst (λ (s : State). LeavesLookups a s) (sym told.0.1) (telling a told.0.0), only_told telling ms told.1)

-- of what is 0 nothing is held before, whoever ended
held-none : (ended : Bool) (held : ℕ) → held ≡ 0 → (if ended then 0 else held) ≡ 0
held-none true held none = refl
held-none false held none = none

pub new_ones_are_kept : HistoriesKeepBooks TreeAllows GivesFirst → HistoriesKeepTrees
    → TellingLeavesLookups → NewOnesAreTrees → NewTreesAreKept
new_ones_are_kept keep trees telling new_ones uid gid permissions limits writeback now first new ms is h told =
    let made = new_ones uid gid permissions limits writeback now in
    let turns = turns_in ms in
    let kept = trees first new ms h (only_told telling ms told) (subst IsTree (sym is) made.0) in
    let nothing : (n : ℕ) → held_by_last first.fs turns n ≡ 0 = λ n.
    held-none _ (lookups_of first.fs n) (ap (λ (s : State). lookups_of s n) is ∙ made.1 n) in
    record {
      books = keep first new ms h;
      tree = kept.0.tree;
      lookups = λ n some within. omega (arith, kept.0.lookups n some within, nothing n);
      leaves_none = λ n some within all there.
          kept.1 n some (record { nothing = nothing n; within = within; all = all }) there;
    }
