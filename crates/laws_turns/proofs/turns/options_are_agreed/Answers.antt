use Rattle.laws_turns.proofs.EachTurn.{agrees}
use Rattle.laws_turns.proofs.turns.options_are_agreed.Goals as goal

pub returns : goal.returns
returns c = λ limits options after offered want t turn e. agrees limits options after offered want t turn e
