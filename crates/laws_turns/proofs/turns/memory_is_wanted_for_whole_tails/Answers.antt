use Rattle.laws_turns.proofs.EachTurn.{memory_wanted}
use Rattle.laws_turns.proofs.turns.memory_is_wanted_for_whole_tails.Goals as goal

pub returns : goal.returns
returns c = λ limits options after t turn o. memory_wanted limits options after t o turn
