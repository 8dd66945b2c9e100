use Rattle.laws_turns.proofs.EachTurn.{never_flush, never_second}
use Rattle.laws_turns.proofs.turns.two_errors_are_never_answered.Goals as goal

pub returns : goal.returns
returns c = λ limits options after t turn. (never_flush limits options after t turn, never_second limits options after t turn)
