use Rattle.std.proofs.Common.{refl}
use Rattle.test_uses.proofs.ScriptTransfers.{none_is_taken}
use Rattle.test_uses.proofs.mock.file_that_takes_no_byte.Goals as goal

pub returns-clause-answer : goal.returns-clause-answer
returns-clause-answer g c =
    (none_is_taken _ c.requires _ _ c.write.ensures.2.0).0

pub returns-clause-called : goal.returns-clause-called
returns-clause-called g c =
    rw (none_is_taken _ c.requires _ _ c.write.ensures.2.0).1 refl
