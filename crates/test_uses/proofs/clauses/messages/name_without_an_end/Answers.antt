use Rattle.std.proofs.Common.{◌≡◌, ℕ, List, Result, Ok, Err, MatchResult, refl}
use Rattle.vfs_grammar.specs.declared.error.Error.{Error}
use Rattle.vfs_grammar.specs.declared.error.Error.TheVariants.{InvalidCString}
use Rattle.test_uses.proofs.clauses.messages.name_without_an_end.Goals as goal

is_none : (result found : Result (List ℕ) Error) → found ≡ Err InvalidCString
    → MatchResult result (λ name. found ≡ Ok name) (λ error. found ≡ Err error) → result ≡ Err InvalidCString
is_none (Ok name) found none is = absurd (cc (none, is))
is_none (Err error) found none is = cc (none, is)

pub returns : goal.returns
returns c = is_none c.name_of_tail.result _ (rw c.requires refl) c.name_of_tail.ensures
