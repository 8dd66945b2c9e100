use Rattle.laws_flight.proofs.Made.{no_count_is_below}
use Rattle.laws_flight.proofs.laws.no_count_falls_below_zero_in_flight.Goals as goal

pub returns : goal.returns
returns c = no_count_is_below
