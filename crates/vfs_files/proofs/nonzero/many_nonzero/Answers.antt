use Rattle.std.proofs.Common.{arith, length, ◌-◌, ◌+◌, ◌*◌}
use Rattle.vfs_files.proofs.WithoutZeros.{part_nonzero, parts_nonzero}
use Rattle.vfs_files.proofs.nonzero.many_nonzero.Goals as goal

pub sixteens-preserved : goal.sixteens-preserved
sixteens-preserved c =
    parts_nonzero 0 (16 * c.sixteens.i) (16 * c.sixteens.i) 16 (16 * (c.sixteens.i + 1)) c.args.bytes.now
    (omega arith) (omega arith) (omega arith) c.sixteens.invariant (c.nonzero_16.ensures.0 c.if-not-nonzero_16.false)

pub returns : goal.returns
returns c =
    let len = length c.args.bytes.now in (
      λ h. parts_nonzero 0 (16 * c.sixteens.i) (len - 16) 16 len c.args.bytes.now
          (omega arith) (omega (arith, c.requires, c.sixteens-test.false)) (omega (arith, c.requires)) c.sixteens.invariant (c.nonzero_16-2.ensures.0 h),
      λ h. c.nonzero_16-2.ensures.1 (part_nonzero 0 len (len - 16) 16 c.args.bytes.now (omega arith) (omega (arith, c.requires)) h),
    )
