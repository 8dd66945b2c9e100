use Rattle.laws_turns.proofs.EachTurn.{nothing_changed}
use Rattle.laws_turns.proofs.turns.refusals_change_nothing.Goals as goal

pub returns : goal.returns
returns c = λ limits options after t e turn o n. nothing_changed limits options after t e turn o n
