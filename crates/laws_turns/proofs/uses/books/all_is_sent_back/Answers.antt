use Rattle.std.proofs.Common.{arith}
use Rattle.laws_turns.proofs.uses.books.all_is_sent_back.Goals as goal

pub returns : goal.returns
returns c = λ limits options after n turns some are all.
    let books = (c.turns_keep_books.ensures limits options after turns are).balanced n some in
    omega (arith, books, all)
