-- What is known of runs: two in a row, and runs that leave a known iterator at hand.
use Rattle.std.proofs.Common.{List, [], ◌∷◌, ◌++◌, Option, Some, None, refl, sym, subst, append-nil, append_assoc}
use Rattle.vfs_files.specs.Values.{Item}
use Rattle.vfs_files.specs.Calls.{Call, Answer, Handed, Plain}
use Rattle.vfs_files.specs.Runs.{Event, Called, OpenedDirectory, Taken, IsRun, RunsJoin}

module _ {S I : Type 0} (allows : S → Call → Handed I → S → Type 0)
    (gives : I → Option Item → I → Type 0) where
  -- a run that begins with no iterator at hand can begin with any
  pub run-any_iterator : (it : Option I) (s : S) (es : List Event) (t : S)
      → IsRun allows gives None s es t → IsRun allows gives it s es t
  run-any_iterator it s [] t r = r
  run-any_iterator it s (Called call answer ∷ es) t r =
      (r.0, r.1, run-any_iterator it r.0 es t r.2)
  run-any_iterator it s (OpenedDirectory call ∷ es) t r = r
  run-any_iterator it s (Taken item ∷ es) t r = absurd (let e = r.2 in cc)

  -- a run, and after it one that begins with no iterator at hand
  pub run-join : RunsJoin allows gives
  run-join it s m t [] fs p r =
      subst (λ (z : S). IsRun allows gives it z fs t) p (run-any_iterator it m fs t r)
  run-join it s m t (Called call answer ∷ es) fs p r =
      (p.0, p.1, run-join it p.0 m t es fs p.2 r)
  run-join it s m t (OpenedDirectory call ∷ es) fs p r =
      (p.0, p.1, p.2, run-join (Some p.1) p.0 m t es fs p.3 r)
  run-join it s m t (Taken item ∷ es) fs p r =
      (p.0, p.1, p.2, p.3, run-join (Some p.1) s m t es fs p.4 r)

  -- a run with these events leads from one state to another, begins with one iterator at hand and
  -- leaves another: any run that begins there can follow it
  pub record Ran (it : Option I) (old : S) (events : List Event) (new : S) (last : Option I) : Type
      0 where
    pub goes_on : (more : List Event) (end : S)
        → IsRun allows gives last new more end → IsRun allows gives it old (events ++ more) end

  -- it is a run
  pub ran_is_run : {it last : Option I} {old new : S} {events : List Event}
      → Ran it old events new last → IsRun allows gives it old events new
  ran_is_run {it} {last} {old} {new} {events} p =
      subst (λ (es : List Event). IsRun allows gives it old es new) (append-nil events)
      (p.goes_on [] new refl)

  -- no events
  pub ran_nothing : (it : Option I) (s : S) → Ran it s [] s it
  ran_nothing it s = record { goes_on = λ more end r. r }

  -- a call
  pub ran_call : (it : Option I) (old : S) (call : Call) (answer : Answer) (new : S)
      → allows old call (Plain answer) new → Ran it old (Called call answer ∷ []) new it
  ran_call it old call answer new h = record { goes_on = λ more end r. (new, h, r) }

  -- a taking from the iterator at hand
  pub ran_taking : (before : I) (item : Option Item) (after : I) (s : S)
      → gives before item after → Ran (Some before) s (Taken item ∷ []) s (Some after)
  ran_taking before item after s h =
      record { goes_on = λ more end r. (before, after, refl, h, r) }

  -- one run after another, which goes on with the iterator that the first left
  pub ran_on : {it between last : Option I} {old middle new : S} {before after : List Event}
      → Ran it old before middle between → Ran between middle after new last
      → Ran it old (before ++ after) new last
  ran_on {it} {between} {last} {old} {middle} {new} {before} {after} p q =
      record {
        goes_on = λ more end r.
            subst (λ (es : List Event). IsRun allows gives it old es end)
            (sym (append_assoc before after more))
            (p.goes_on (after ++ more) end (q.goes_on more end r));
      }
