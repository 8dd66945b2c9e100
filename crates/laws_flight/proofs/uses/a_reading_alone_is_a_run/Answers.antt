use Rattle.std.proofs.Common.{[], ◌∷◌}
use Rattle.vfs_files.specs.Runs.{OpenedDirectory, Taken}
use Rattle.laws_flight.specs.Made.{Began, Completed, Seen}
use Rattle.laws_flight.proofs.uses.a_reading_alone_is_a_run.Goals as goal

pub returns : goal.returns
returns g c limits w t after call item old new made =
    c.calls_in_flight_are_a_run.ensures.alone limits old new
    (Began w ∷ Seen (OpenedDirectory call) ∷ Seen (Taken item) ∷ Completed t after ∷ []) made (tt {0})
