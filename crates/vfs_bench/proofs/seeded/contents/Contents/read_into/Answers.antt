use Rattle.std.proofs.Common.{◌++◌, arith, length-append}
use Rattle.vfs_files.specs.TransferLaws.{transfer_counts, transfer_tells}
use Rattle.vfs_bench.proofs.seeded.contents.Contents.read_into.Goals as goal

pub returns-then-self-eq0 : goal.returns-then-self-eq0
returns-then-self-eq0 g c =
    let t = c.read_from_file_at.ensures in
    (t.0, t.1, transfer_counts _ _ _ _ _ _ _ _ _ (omega arith) (omega arith) t.2)

pub returns-then-moved-half : goal.returns-then-moved-half
returns-then-moved-half g c =
    let t = c.in_ok-moved.ensures in
    (t.0, t.1, transfer_counts _ _ _ _ _ _ _ _ _ (omega arith) (omega arith) t.2)

pub returns-in_default : goal.returns-in_default
returns-in_default g c =
    let t = c.in_ok-moved.ensures in
    (t.0, t.1, transfer_counts _ _ _ _ _ _ _ _ _ (omega arith) (omega arith) t.2)

pub overflow_sub-size : goal.overflow_sub-size
overflow_sub-size g c =
    let tells = transfer_tells _ _ _ _ _ _ _ _ c.in_ok-moved.ensures.2 in
    omega (arith, tells.1)

pub overflow_add-result : goal.overflow_add-result
overflow_add-result g c =
    let first = transfer_tells _ _ _ _ _ _ _ _ c.in_ok-moved.ensures.2 in
    let second = transfer_tells _ _ _ _ _ _ _ _ c.in-Ok.ensures.2 in
    omega (arith, first.1, second.1, c.ranges.size, c.min-size.ensures)

pub returns-in-Ok : goal.returns-in-Ok
returns-in-Ok g c =
    let t = c.in_ok-moved.ensures in
    let u = c.in-Ok.ensures in
    let first = transfer_tells _ _ _ _ _ _ _ _ t.2 in
    let second = transfer_tells _ _ _ _ _ _ _ _ u.2 in
    let long = length-append t.0 u.0 in (
      t.0 ++ u.0,
      g.met.W.ZeroCopyWriter.one_then_other _ _ _ _ _ t.1 u.1,
      (
        omega (arith, first.0, second.0, long),
        omega (arith, first.1, second.1, c.min-size.ensures),
        omega (arith, first, second, long, c.min-size.ensures),
      ),
    )

pub returns-in-Err : goal.returns-in-Err
returns-in-Err g c =
    let t = c.in_ok-moved.ensures in
    let u = c.in-Err.ensures in
    (t.0 ++ u.0, g.met.W.ZeroCopyWriter.one_then_other _ _ _ _ _ t.1 u.1, tt)
