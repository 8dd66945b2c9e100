use Rattle.std.proofs.Common.{arith}
use Rattle.vfs_files.specs.TransferLaws.{transfer_counts}
use Rattle.test_uses.proofs.files.read_through.Goals as goal

pub returns : goal.returns
returns g c =
    let t = c.read_from_file_at.ensures in
    (t.0, t.1, transfer_counts _ _ _ _ _ _ _ _ _ (omega arith) (omega arith) t.2)
