use Rattle.laws_turns.proofs.OneTurn.{turn_books}
use Rattle.laws_turns.proofs.books.each_turn_balances.Goals as goal

pub returns : goal.returns
returns c = λ limits options after n t some turn. turn_books n limits options t after some turn
