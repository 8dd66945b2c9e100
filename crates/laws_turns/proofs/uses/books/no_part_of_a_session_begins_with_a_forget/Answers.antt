use Rattle.std.proofs.Common.{◌≤◌, ◌++◌, List, take, refl, arith, subst}
use Rattle.vfs_files.specs.Runs.{Event}
use Rattle.vfs_grammar.specs.Books.{answered, sent}
use Rattle.laws_turns.proofs.uses.books.no_part_of_a_session_begins_with_a_forget.Goals as goal

pub returns : goal.returns
returns c = λ limits options after before part following ctx events are within begins.
    let books = c.turns_keep_books.ensures limits options after (before ++ (part ++ following)) are in
    let below = books.never_below before part following refl 5 (λ e. omega arith) within 1 in
    let first = subst (λ (es : List Event). sent 5 (take 1 es) ≤ answered 5 (take 1 es)) begins below in
    omega (arith, first)
