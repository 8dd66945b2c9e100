use Rattle.std.proofs.Common.{arith, length, ◌-◌}
use Rattle.vfs_files.proofs.WithoutZeros.{tests_nonzero}
use Rattle.vfs_files.proofs.nonzero.all_nonzero.Goals as goal

pub returns-then-len-ge16 : goal.returns-then-len-ge16
returns-then-len-ge16 c =
    let len = length c.args.bytes.now in
    tests_nonzero 0 16 (len - 16) 16 len c.args.bytes.now _ _ (omega arith) (omega arith) (omega arith) (omega arith)
    c.nonzero_16.ensures c.nonzero_16-then-len-ge16.ensures

pub returns-then-len-ge8 : goal.returns-then-len-ge8
returns-then-len-ge8 c =
    let len = length c.args.bytes.now in
    tests_nonzero 0 8 (len - 8) 8 len c.args.bytes.now _ _ (omega arith) (omega arith) (omega arith) (omega arith)
    c.nonzero_8.ensures c.nonzero_8-then-len-ge8.ensures
