use Rattle.std.proofs.Common.{◌≤◌, List, take, arith, subst}
use Rattle.vfs_files.specs.Runs.{Event}
use Rattle.vfs_grammar.specs.Books.{answered, sent}
use Rattle.vfs_grammar.proofs.Keeping.{never_below_over}
use Rattle.laws_turns.proofs.uses.books.no_session_begins_with_a_forget.Goals as goal

pub returns : goal.returns
returns c = λ limits options after turns ctx events are within begins.
    let below = never_below_over turns (c.turns_keep_books.ensures limits options after turns are) 5 (λ e. omega arith) within 1 in
    let first = subst (λ (es : List Event). sent 5 (take 1 es) ≤ answered 5 (take 1 es)) begins below in
    omega (arith, first)
