use Rattle.std.proofs.Common.{◌++◌}
use Rattle.laws_history.proofs.uses.both_histories_keep_books.Goals as goal

pub returns : goal.returns
returns g c = λ first middle last before after one other.
    c.history_keeps_books.ensures first last (before ++ after)
    (c.histories_join.ensures first middle last before after one other)
