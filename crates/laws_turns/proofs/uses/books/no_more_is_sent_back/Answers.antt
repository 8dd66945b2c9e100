use Rattle.std.proofs.Common.{◌≤◌, List, length, subst, arith}
use Rattle.std.proofs.lemmas.List.{take_all}
use Rattle.vfs_files.specs.Runs.{Event}
use Rattle.vfs_grammar.specs.Books.{answered, sent}
use Rattle.vfs_grammar.specs.Turn.{events_in}
use Rattle.laws_turns.proofs.uses.books.no_more_is_sent_back.Goals as goal

pub returns : goal.returns
returns c = λ limits options after n turns some are within.
    let all = events_in turns in
    subst (λ (es : List Event). sent n es ≤ answered n es) (take_all (length all) all (omega arith))
    (c.counts_never_fall_below_zero.ensures limits options after n turns some are within (length all))
