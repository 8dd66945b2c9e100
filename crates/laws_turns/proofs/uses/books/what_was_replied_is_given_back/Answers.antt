use Rattle.std.proofs.Common.{[], ◌∷◌, refl, arith, zero-add}
use Rattle.vfs_files.specs.Calls.{Lookup}
use Rattle.vfs_grammar.proofs.Keeping.{never_below_over}
use Rattle.laws_turns.proofs.BookCallers.{delivers_once, sends_what_they_say, gives_back}
use Rattle.laws_turns.proofs.uses.books.what_was_replied_is_given_back.Goals as goal

pub returns-clause-sent : goal.returns-clause-sent
returns-clause-sent c = λ limits options after gave turn asked done.
    sends_what_they_say gave (c.each_turn_balances.ensures limits options after 7 gave (λ e. omega arith) turn) asked done

pub returns-clause-never_below : goal.returns-clause-never_below
returns-clause-never_below c = λ limits options after looked gave ctx parent name entry are called five whole asked done.
    let books = c.each_turn_balances.ensures limits options are.0 5 looked (λ e. omega arith) are.1 in
    let once = delivers_once looked (Lookup ctx parent name) entry books called (zero-add _) refl five whole in
    never_below_over (looked ∷ gave ∷ []) (c.turns_keep_books.ensures limits options after (looked ∷ gave ∷ []) are) 5 (λ e. omega arith)
    (gives_back looked gave once whole asked done)
