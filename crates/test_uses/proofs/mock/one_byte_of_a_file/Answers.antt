use Rattle.std.proofs.Common.{refl}
use Rattle.test_uses.proofs.ScriptTransfers.{seven_is_read}
use Rattle.test_uses.proofs.mock.one_byte_of_a_file.Goals as goal

pub returns-clause-answer : goal.returns-clause-answer
returns-clause-answer g c =
    let read = c.read.ensures in
    (seven_is_read _ c.requires _ read.0 _ read.2 read.3.0).0

pub returns-clause-put : goal.returns-clause-put
returns-clause-put g c =
    let read = c.read.ensures in
    rw (seven_is_read _ c.requires _ read.0 _ read.2 read.3.0).1 at read.1

pub returns-clause-called : goal.returns-clause-called
returns-clause-called g c =
    let read = c.read.ensures in
    rw (seven_is_read _ c.requires _ read.0 _ read.2 read.3.0).2 refl
