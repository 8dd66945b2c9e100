use Rattle.laws_flight.proofs.Telling.{told_is_call}
use Rattle.laws_flight.proofs.laws.what_is_told_is_the_call.Goals as goal

pub returns : goal.returns
returns c = told_is_call
