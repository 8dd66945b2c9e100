use Rattle.std.proofs.Common.{◌≡◌, ◌≤◌, List, true, length, take, None, arith, subst, sym}
use Rattle.std.proofs.lemmas.List.{take_all}
use Rattle.laws_flight.specs.Made.{Point, events_seen, ForgetsWhatItWasTold}
use Rattle.vfs_grammar.specs.Books.{answered, sent}
use Rattle.laws_flight.proofs.Running.{run_keeps}
use Rattle.laws_flight.proofs.uses.what_calls_keep_flights_keep.Goals as goal

pub returns : goal.returns
returns g c limits old new points keeps n each has made some told =
    let run = c.calls_in_flight_are_a_run.ensures.flights limits old new points made in
    let all : take (length points) points ≡ points = take_all (length points) points (omega arith) in
    let below = c.no_count_falls_below_zero_in_flight.ensures limits points n (length points) some run.0
    (subst (ForgetsWhatItWasTold n) (sym all) told) in (
      run_keeps g.F.FileSystem.allows g.F.DirIter.DirectoryIterator.gives (λ s. keeps s ≡ true) each None old new _ run.1 has,
      subst (λ (ps : List Point). sent n (events_seen ps) ≤ answered n (events_seen ps)) all below,
    )
