use Rattle.laws_flight.proofs.OneOfferedTurn.{are_one_offered_turn}
use Rattle.laws_flight.proofs.laws.asked_and_answered_is_one_offered_turn.Goals as goal

pub returns : goal.returns
returns c = are_one_offered_turn
