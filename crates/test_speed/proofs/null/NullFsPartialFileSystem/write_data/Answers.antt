use Rattle.std.proofs.Common.{arith}
use Rattle.vfs_files.specs.TransferLaws.{transfer_tells}
use Rattle.test_speed.proofs.null.NullFsPartialFileSystem.write_data.Goals as goal

pub overflow_cast-result : goal.overflow_cast-result
overflow_cast-result g c =
    let t = c.in-Ok.ensures in
    let tells = transfer_tells _ _ _ _ _ _ _ _ t.2 in
    omega (arith, tells.1, c.struct_known-1)
