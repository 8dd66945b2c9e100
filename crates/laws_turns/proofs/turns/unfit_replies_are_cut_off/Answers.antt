use Rattle.laws_turns.proofs.Cutting.{cut_off}
use Rattle.laws_turns.proofs.turns.unfit_replies_are_cut_off.Goals as goal

pub returns : goal.returns
returns c = λ limits options after t turn o. cut_off limits options after t turn o
