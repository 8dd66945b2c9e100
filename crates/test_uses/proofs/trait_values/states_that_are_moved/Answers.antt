use Rattle.std.proofs.Common.{◌≡◌, false, true}
use Rattle.test_uses.proofs.trait_values.states_that_are_moved.Goals as goal

pub returns-clause-saved : goal.returns-clause-saved
returns-clause-saved c = λ old new bytes result h. h

pub returns-clause-unsaved : goal.returns-clause-unsaved
returns-clause-unsaved c = λ old new result h. h

pub returns-clause-not_partly_saved : goal.returns-clause-not_partly_saved
returns-clause-not_partly_saved c = λ old new done h.
    let e : false ≡ true = h in cc

pub returns-clause-restored : goal.returns-clause-restored
returns-clause-restored c = λ old new bytes result h. h

pub returns-clause-unread : goal.returns-clause-unread
returns-clause-unread c = λ old new result h. h

pub returns-clause-not_partly_restored : goal.returns-clause-not_partly_restored
returns-clause-not_partly_restored c = λ old new done h.
    let e : false ≡ true = h in cc
