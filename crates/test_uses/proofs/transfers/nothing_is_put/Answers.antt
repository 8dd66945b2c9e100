use Rattle.std.proofs.Common.{arith}
use Rattle.vfs_files.specs.TransferLaws.{transfer_of_nothing}
use Rattle.test_uses.proofs.transfers.nothing_is_put.Goals as goal

pub returns-clause-answer : goal.returns-clause-answer
returns-clause-answer g c =
    (transfer_of_nothing _ _ _ _ _ _ _ _ (omega arith) c.read_from_file_at.ensures.2).0

pub returns-clause-file : goal.returns-clause-file
returns-clause-file g c =
    (transfer_of_nothing _ _ _ _ _ _ _ _ (omega arith) c.read_from_file_at.ensures.2).1
