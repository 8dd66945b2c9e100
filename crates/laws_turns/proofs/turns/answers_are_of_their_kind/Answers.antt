use Rattle.laws_turns.proofs.EachTurn.{of_its_kind}
use Rattle.laws_turns.proofs.turns.answers_are_of_their_kind.Goals as goal

pub returns : goal.returns
returns c = λ limits options after call answer rest t turn e. of_its_kind limits options after call answer rest t turn e
