use Rattle.laws_turns.proofs.InOrder.{keeps_books, are_each_turns}
use Rattle.laws_turns.proofs.books.turns_keep_books.Goals as goal

pub returns : goal.returns
returns c = λ limits options after turns are. keeps_books limits turns (are_each_turns limits options turns after are)
