-- The books over all of the turns of which they are kept.
use Rattle.std.proofs.Common.{◌≢◌, ℕ, List, [], sym, append-nil}
use Rattle.vfs_grammar.specs.Turn.{Turn, events_in}
use Rattle.vfs_grammar.specs.Books.{KeepsBooks}
use Rattle.vfs_grammar.specs.Words.{GivesBackWithin, NeverBelow}

pub never_below_over : (turns : List Turn) → KeepsBooks turns → (n : ℕ) → n ≢ 0 → GivesBackWithin n turns
    → NeverBelow n (events_in turns)
never_below_over turns books = books.never_below [] turns [] (sym (append-nil turns))
