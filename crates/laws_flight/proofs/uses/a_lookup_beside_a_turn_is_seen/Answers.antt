use Rattle.std.proofs.Common.{◌≤◌, List, [], ◌∷◌, length, Some, refl, inl, inr, arith, subst, sym}
use Rattle.std.proofs.lemmas.List.{take_all}
use Rattle.vfs_files.specs.Calls.{Done, Forget, Found, Lookup}
use Rattle.vfs_files.specs.Runs.{Event, Called, OpenedDirectory, Taken}
use Rattle.vfs_grammar.specs.Books.{answered, sent}
use Rattle.laws_flight.specs.Flight.{Waiting}
use Rattle.laws_flight.specs.Made.{Going, Point, AreSeenOf, events_seen, ForgetsWhatItWasTold}
use Rattle.laws_flight.proofs.uses.a_lookup_beside_a_turn_is_seen.Goals as goal

abbrev going : Waiting → List Event → Going
going w events = record { waiting = w; events = events }

pub returns-clause-seen : goal.returns-clause-seen
returns-clause-seen c = λ limits w t after call dot more ctx parent entry turn events.
    let a = OpenedDirectory call in
    let b = Taken (Some dot) in
    let d = Taken (Some more) in
    let e = Called (Lookup ctx parent more.name) (Found entry) in
    let f = Called (Forget ctx entry.inode 1) Done in
    let z = Called (Forget ctx 0 1) Done in
    let seen : AreSeenOf [] (a ∷ b ∷ d ∷ e ∷ f ∷ []) t.events = inl (
      b ∷ z ∷ [],
      events,
      inl (z ∷ [], refl, inr ([], refl, inr (entry.inode ∷ [], refl, inr ([], ([], [], refl, refl, refl), inr (ctx, refl))))),
    ) in (
      [],
      [],
      going w [],
      refl,
      (
        [],
        [],
        going w (a ∷ []),
        refl,
        (
          [],
          [],
          going w (a ∷ b ∷ []),
          refl,
          (
            [],
            [],
            going w (a ∷ b ∷ d ∷ []),
            refl,
            (
              [],
              [],
              going w (a ∷ b ∷ d ∷ e ∷ []),
              refl,
              ([], [], going w (a ∷ b ∷ d ∷ e ∷ f ∷ []), refl, turn, seen, tt),
            ),
          ),
        ),
      ),
    )

pub returns-clause-counts : goal.returns-clause-counts
returns-clause-counts c = λ limits points n some seen told.
    let all = take_all (length points) points (omega arith) in
    subst (λ (ps : List Point). sent n (events_seen ps) ≤ answered n (events_seen ps)) all
    (c.no_count_falls_below_zero_in_flight.ensures limits points n (length points) some seen
    (subst (ForgetsWhatItWasTold n) (sym all) told))
