-- Calls of requests in flight, as they are made, are a run.
use Rattle.std.proofs.Common.{◌≡◌, ◌⊎◌, ◌++◌, ◌∙◌, Bool, true, false, List, [], ◌∷◌, map, Option, Some, None, refl, ap, sym, subst, inl, inr}
use Rattle.std.proofs.lemmas.List.{map-append}
use Rattle.vfs_files.specs.Calls.{Call, Handed, Plain, Iterator}
use Rattle.vfs_files.specs.Runs.{Event, Called, OpenedDirectory, Taken, IsRun}
use Rattle.vfs_files.specs.Values.{Item}
use Rattle.vfs_grammar.specs.declared.limits.Limits.{Limits}
use Rattle.laws_flight.specs.Made.{Going, Point, Began, Seen, Completed, AreSeen, events_seen}
use Rattle.laws_flight.specs.Running.{Running, AloneRun, AreAlone, AreMade, FlightsRun, Leads, calls_in}

module _ {S I : Type 0} (allows : S → Call → Handed I → S → Type 0) (gives : I → Option Item → I → Type 0) where
  module _ (limits : Limits) where
    abbrev goings : List (Running I) → List Going
    goings running = map (λ r. r.going) running

    -- the states apart, requests in flight are seen so
    seen : (running : List (Running I)) (old new : S) (points : List Point)
        → AreMade allows gives limits running old points new → AreSeen limits (goings running) points
    seen running old new [] made = made.0
    seen running old new (Began w ∷ points) made =
        seen (record { going = record { waiting = w; events = [] }; iterator = None } ∷ running) old new points made
    seen running old new (Seen event ∷ points) (before, following, r, is, it, next, leads, made) =
        let later : Running I = record {
          going = record r.going { events = r.going.events ++ event ∷ [] };
          iterator = it;
        } in (
          goings before,
          goings following,
          r.going,
          ap goings is ∙ map-append (λ (x : Running I). x.going) before (r ∷ following),
          subst (λ (gs : List Going). AreSeen limits gs points)
              (map-append (λ (x : Running I). x.going) before (later ∷ following))
              (seen (before ++ later ∷ following) next new points made),
        )
    seen running old new (Completed t after ∷ points) (before, following, r, is, turn, same, made) = (
      goings before,
      goings following,
      r.going,
      ap goings is ∙ map-append (λ (x : Running I). x.going) before (r ∷ following),
      turn,
      same,
      subst (λ (gs : List Going). AreSeen limits gs points)
          (map-append (λ (x : Running I). x.going) before following)
          (seen (before ++ following) old new points made),
    )

    -- takings apart, they are a run
    run : (it : Option I) (running : List (Running I)) (old new : S) (points : List Point)
        → AreMade allows gives limits running old points new
        → IsRun allows gives it old (calls_in (events_seen points)) new
    run it running old new [] made = made.1
    run it running old new (Began w ∷ points) made =
        run it (record { going = record { waiting = w; events = [] }; iterator = None } ∷ running) old new points made
    run it running old new (Seen (Called call answer) ∷ points) (before, following, r, is, at, next, leads, made) = (
      next,
      leads.0,
      run it (before ++ record {
        going = record r.going { events = r.going.events ++ Called call answer ∷ [] };
        iterator = at;
      } ∷ following) next new points made,
    )
    run it running old new (Seen (OpenedDirectory call) ∷ points) (before, following, r, is, at, next, leads, made) = (
      next,
      leads.0,
      leads.1,
      run (Some leads.0) (before ++ record {
        going = record r.going { events = r.going.events ++ OpenedDirectory call ∷ [] };
        iterator = at;
      } ∷ following) next new points made,
    )
    run it running old new (Seen (Taken item) ∷ points) (before, following, r, is, at, next, leads, made) =
        let goes_on = run it (before ++ record {
          going = record r.going { events = r.going.events ++ Taken item ∷ [] };
          iterator = at;
        } ∷ following) next new points made in
        subst (λ (s : S). IsRun allows gives it s (calls_in (events_seen points)) new) leads.5 goes_on
    run it running old new (Completed t after ∷ points) (before, following, r, is, turn, same, made) =
        run it (before ++ following) old new points made

    -- the one that waits alone
    the_one : (r : Running I) (before : List (Running I)) (x : Running I) (following : List (Running I))
        → r ∷ [] ≡ before ++ x ∷ following → (before ≡ []) × (x ≡ r) × (following ≡ [])
    the_one r [] x following is = (refl, cc, cc)
    the_one r (y ∷ []) x following is = absurd (cc is)
    the_one r (y ∷ z ∷ before) x following is = absurd (cc is)

    -- what is left of the directory at hand is what is left of the request's, if it has one
    abbrev AtHand : (at it : Option I) → Type 0
    AtHand at it = (at ≡ it) ⊎ (at ≡ None)

    of_hand : (at it : Option I) (before : I) → AtHand at it → at ≡ Some before → it ≡ Some before
    of_hand at it before (inl same) is = sym same ∙ is
    of_hand at it before (inr none) is = absurd (let e = sym none ∙ is in cc)

    same_hand : (later at it : Option I) → later ≡ at → AtHand at it → AtHand later it
    same_hand later at it e (inl same) = inl (e ∙ same)
    same_hand later at it e (inr none) = inr (e ∙ none)

    -- one event, and the run after it
    led_on : (it at later : Option I) (old next new : S) (event : Event) (events : List Event) → AtHand at it
        → Leads allows gives limits at old event later next
        → ((now : Option I) → AtHand later now → IsRun allows gives now next events new)
        → IsRun allows gives it old (event ∷ events) new
    led_on it at later old next new (Called call answer) events has led following =
        (next, led.0, following it (same_hand later at it led.1 has))
    led_on it at later old next new (OpenedDirectory call) events has led following =
        (next, led.0, led.1, following (Some led.0) (inl led.2))
    led_on it at later old next new (Taken item) events has led following = (
      led.0,
      led.1,
      of_hand at it led.0 has led.2,
      led.3,
      subst (λ (s : S). IsRun allows gives (Some led.1) s events new) led.5 (following (Some led.1) (inl led.4)),
    )

    abbrev waiting : Bool → Running I → List (Running I)
    waiting false r = []
    waiting true r = r ∷ []

    alone : (it : Option I) (waits : Bool) (r : Running I) (old new : S) (points : List Point)
        → AtHand r.iterator it → AreMade allows gives limits (waiting waits r) old points new
        → AreAlone waits points → IsRun allows gives it old (events_seen points) new
    alone it waits r old new [] has made by = made.1
    alone it false r old new (Began w ∷ points) has made by =
        alone it true (record { going = record { waiting = w; events = [] }; iterator = None }) old new points (inr refl) made by
    alone it true r old new (Began w ∷ points) has made by = absurd by
    alone it false r old new (Seen event ∷ points) has made by = absurd by
    alone it true r old new (Seen event ∷ points) has (before, following, x, is, at, next, leads, made) by =
        let one = the_one r before x following is in
        let later : Running I = record {
          going = record x.going { events = x.going.events ++ event ∷ [] };
          iterator = at;
        } in
        let here : AreMade allows gives limits (later ∷ []) next points new =
        subst (λ (ys : List (Running I)). AreMade allows gives limits (later ∷ ys) next points new) one.2
        (subst (λ (xs : List (Running I)). AreMade allows gives limits (xs ++ later ∷ following) next points new) one.0 made) in
        let led : Leads allows gives limits r.iterator old event at next =
        subst (λ (y : Running I). Leads allows gives limits y.iterator old event at next) one.1 leads in
        led_on it r.iterator at old next new event (events_seen points) has led
        (λ now h. alone now true later next new points h here by)
    alone it false r old new (Completed t after ∷ points) has made by = absurd by
    alone it true r old new (Completed t after ∷ points) has (before, following, x, is, turn, same, made) by =
        let one = the_one r before x following is in
        let here : AreMade allows gives limits [] old points new =
        subst (λ (ys : List (Running I)). AreMade allows gives limits ys old points new) one.2
        (subst (λ (xs : List (Running I)). AreMade allows gives limits (xs ++ following) old points new) one.0 made) in
        alone it false r old new points has here by

  pub flights_run : FlightsRun allows gives
  flights_run limits old new points made =
      (seen limits [] old new points made, run limits None [] old new points made)

  pub alone_run : AloneRun allows gives
  alone_run limits old new points made by =
      let none : Running I = record {
        going = record { waiting = record { request = []; options = 0; room_len = 0 }; events = [] };
        iterator = None;
      } in
      alone limits None false none old new points (inr refl) made by

  -- what each call keeps, a run keeps
  pub run_keeps : (keeps : S → Type 0)
      → ((before after : S) (call : Call) (handed : Handed I) → allows before call handed after → keeps before → keeps after)
      → (it : Option I) (old new : S) (events : List Event) → IsRun allows gives it old events new
      → keeps old → keeps new
  run_keeps keeps each it old new [] ran has = subst keeps (sym ran) has
  run_keeps keeps each it old new (Called call answer ∷ events) (next, allowed, ran) has =
      run_keeps keeps each it next new events ran (each old next call (Plain answer) allowed has)
  run_keeps keeps each it old new (OpenedDirectory call ∷ events) (next, opened, allowed, ran) has =
      run_keeps keeps each (Some opened) next new events ran (each old next call (Iterator opened) allowed has)
  run_keeps keeps each it old new (Taken item ∷ events) (before, after, is, given, ran) has =
      run_keeps keeps each (Some after) old new events ran has
