use Rattle.laws_turns.proofs.EachTurn.{begins}
use Rattle.laws_turns.proofs.turns.replies_begin_with_their_header.Goals as goal

pub returns : goal.returns
returns c = λ limits options after n t turn o some. begins limits options after n t turn o some
