use Rattle.laws_turns.proofs.EachTurn.{kept}
use Rattle.laws_turns.proofs.turns.other_requests_keep_the_options.Goals as goal

pub returns : goal.returns
returns c = λ limits options after t turn no_init no_destroy. kept limits options after t turn no_init no_destroy
