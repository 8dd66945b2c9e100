use Rattle.std.proofs.Common.{None, arith, sym}
use Rattle.std.proofs.lemmas.Grind.{common_steps}
use Rattle.vfs_files.specs.TransferLaws.{transfer_tells}
use Rattle.vfs_files.specs.WritingLaws.{write_transfer}
use Rattle.vfs_files.proofs.bytes_mut.write_bytes.Goals as goal

pub overflow_cast-result : goal.overflow_cast-result
overflow_cast-result g c =
    let t = c.in-Ok.ensures in
    let tells = transfer_tells _ _ _ _ _ _ _ _ t.2 in
    omega (arith, tells.1, c.ranges.size)

pub returns-in-Ok : goal.returns-in-Ok
returns-in-Ok g c =
    let t = c.in-Ok.ensures in
    let w = write_transfer c.args.size c.args.offset _ None _ _ _ _ (omega arith) t.2 in
    let same = sym w.1.vector in
    (t.0, t.1, (w.0.0, grind (arith, common_steps, same, w.0.1)))

pub returns-in-Err : goal.returns-in-Err
returns-in-Err g c =
    let t = c.in-Err.ensures in
    let w = write_transfer c.args.size c.args.offset _ None _ _ _ _ (omega arith) t.2 in
    let same = sym w.1.vector in
    (t.0, t.1, (w.0.0, w.0.1, grind (arith, common_steps, same, w.0.2)))
