use Rattle.std.proofs.Common.{◌≡◌, ◌==◌, ◌∙◌, true, refl, arith}
use Rattle.std.proofs.lemmas.Bool.Decides.{nat_tests}
use Rattle.laws_flight.proofs.uses_offered.a_tmpfiles_entry_counts.Goals as goal

pub returns : goal.returns
returns c = λ limits t ctx parent name mode kill_priv flags umask ext entry handle opening is events.
    let same : (entry.inode == entry.inode) ≡ true = grind (arith, nat_tests) in
    c.offered_turns_keep_books.ensures.unnamed limits t is entry.inode ∙ rw (events, same) refl
