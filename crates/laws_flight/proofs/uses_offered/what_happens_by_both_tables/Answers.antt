use Rattle.std.proofs.Common.{subst}
use Rattle.vfs_grammar.specs.Forms.{Ask}
use Rattle.laws_flight.specs.OneTurn.{HappenedBetween}
use Rattle.laws_flight.proofs.uses_offered.what_happens_by_both_tables.Goals as goal

pub returns-clause-ordinary : goal.returns-clause-ordinary
returns-clause-ordinary c = λ limits options request told a text items room came events row h.
    (h.0, λ reply is. subst (λ (q : Ask). HappenedBetween limits q a text items room came events) is h.1)

pub returns-clause-unnamed : goal.returns-clause-unnamed
returns-clause-unnamed c = λ limits options request told a text items room came events row h.
    (h.0, λ reply is. subst (λ (q : Ask). HappenedBetween limits q a text items room came events) is h.1)

pub returns-clause-short : goal.returns-clause-short
returns-clause-short c = λ limits options request told a text items room came events row h. absurd h

pub returns-clause-row : goal.returns-clause-row
returns-clause-row c = λ limits options request asked told a text items room came events row h. (h.3, h.4)
