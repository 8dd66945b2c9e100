use Rattle.laws_turns.proofs.Sizes.{no_more}
use Rattle.laws_turns.proofs.turns.data_are_no_more_than_asked.Goals as goal

pub returns : goal.returns
returns c = λ limits options after n t turn carries o. no_more limits options after n t turn carries o
