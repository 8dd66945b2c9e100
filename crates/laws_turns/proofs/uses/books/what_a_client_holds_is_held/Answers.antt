use Rattle.std.proofs.Common.{arith}
use Rattle.laws_turns.proofs.uses.books.what_a_client_holds_is_held.Goals as goal

pub returns : goal.returns
returns c = λ limits options after n held turns some are holds.
    let balance = c.turns_balance.ensures limits options after n turns some are in omega (arith, balance, holds)
