use Rattle.test_uses.proofs.SmallCallers.{not_opened}
use Rattle.test_uses.proofs.listings.read_what_is_not_served.Goals as goal

pub returns-clause-answer : goal.returns-clause-answer
returns-clause-answer c = let r = c.read_directory.ensures.reads in
    (not_opened r.opened _ r.middle _ _ _ _ r.opens r.reads).0

pub returns-clause-same : goal.returns-clause-same
returns-clause-same c = let r = c.read_directory.ensures.reads in
    (not_opened r.opened _ r.middle _ _ _ _ r.opens r.reads).1
