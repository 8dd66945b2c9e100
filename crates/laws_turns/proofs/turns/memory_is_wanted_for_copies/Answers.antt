use Rattle.laws_turns.proofs.EachTurn.{enough_memory}
use Rattle.laws_turns.proofs.turns.memory_is_wanted_for_copies.Goals as goal

pub returns : goal.returns
returns c = λ limits options after t turn o. enough_memory limits options after t turn o
