use Rattle.laws_turns.proofs.InOrder.{never_below, are_each_turns}
use Rattle.laws_turns.proofs.books.counts_never_fall_below_zero.Goals as goal

pub returns : goal.returns
returns c = λ limits options after n turns some are within. never_below n some limits turns (are_each_turns limits options turns after are) within
