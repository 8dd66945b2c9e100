use Rattle.laws_flight.proofs.Flight.{keep_books}
use Rattle.laws_flight.proofs.laws.turns_in_flight_keep_books.Goals as goal

pub returns : goal.returns
returns c = keep_books
