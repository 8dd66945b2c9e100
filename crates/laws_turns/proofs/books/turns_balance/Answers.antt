use Rattle.laws_turns.proofs.InOrder.{turns_books, are_each_turns}
use Rattle.laws_turns.proofs.books.turns_balance.Goals as goal

pub returns : goal.returns
returns c = λ limits options after n turns some are. turns_books n some limits turns (are_each_turns limits options turns after are)
