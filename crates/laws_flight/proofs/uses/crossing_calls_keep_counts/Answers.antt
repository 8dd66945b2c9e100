use Rattle.std.proofs.Common.{List, [], ◌∷◌, refl, arith}
use Rattle.std.proofs.lemmas.List.Sums.{sum_by-cons}
use Rattle.vfs_files.specs.Runs.{Event}
use Rattle.vfs_grammar.specs.Books.{delivered}
use Rattle.laws_flight.specs.Flight.{Waiting}
use Rattle.laws_flight.specs.Made.{Going, Point, Began, Seen, Completed}
use Rattle.laws_flight.proofs.Made.{are_seen}
use Rattle.laws_flight.proofs.uses.crossing_calls_keep_counts.Goals as goal

abbrev going : Waiting → List Event → Going
going w events = record { waiting = w; events = events }

pub returns : goal.returns
returns c limits a b s t x y n d e some turn_a events_a turn_b events_b within =
    let points : List Point = Began a ∷ Began b ∷ Seen e ∷ Seen d ∷ Completed s x ∷ Completed t y ∷ [] in
    let one = sum_by-cons (delivered n) s (t ∷ []) in
    let other = sum_by-cons (delivered n) t [] in
    c.no_count_falls_below_zero_in_flight.ensures limits points n 6 some (
      [],
      going a [] ∷ [],
      going b [],
      refl,
      (
        going b (e ∷ []) ∷ [],
        [],
        going a [],
        refl,
        (
          going b (e ∷ []) ∷ [],
          [],
          going a (d ∷ []),
          refl,
          turn_a,
          are_seen (d ∷ []) s.events events_a,
          ([], [], going b (e ∷ []), refl, turn_b, are_seen (e ∷ []) t.events events_b, tt),
        ),
      ),
    )
    (omega (arith, within, one, other))
