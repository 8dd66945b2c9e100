use Rattle.laws_flight.proofs.OneTurn.{are_finished_turns}
use Rattle.laws_flight.proofs.laws.a_finished_request_is_one_turn.Goals as goal

pub returns : goal.returns
returns c = are_finished_turns
