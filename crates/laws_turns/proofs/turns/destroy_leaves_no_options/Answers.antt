use Rattle.laws_turns.proofs.EachTurn.{destroyed}
use Rattle.laws_turns.proofs.turns.destroy_leaves_no_options.Goals as goal

pub returns : goal.returns
returns c = λ limits options after answer t turn e. destroyed limits options after answer t turn e
