use Rattle.laws_flight.proofs.Flight.{in_order}
use Rattle.laws_flight.proofs.laws.turns_in_flight_are_in_order.Goals as goal

pub returns : goal.returns
returns c = in_order
