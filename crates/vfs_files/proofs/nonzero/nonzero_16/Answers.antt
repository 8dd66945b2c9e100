use Rattle.std.proofs.Common.{arith, ◌+◌}
use Rattle.vfs_files.proofs.WithoutZeros.{tests_nonzero}
use Rattle.vfs_files.proofs.nonzero.nonzero_16.Goals as goal

pub returns : goal.returns
returns c =
    tests_nonzero c.args.at 8 (c.args.at + 8) 8 16 c.args.bytes.now c.nonzero_8.result c.nonzero_8-2.result
    (omega arith) (omega arith) (omega arith) (omega arith) c.nonzero_8.ensures c.nonzero_8-2.ensures
