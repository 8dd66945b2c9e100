use Rattle.std.proofs.Common.{None, ap, arith, length, refl}
use Rattle.vfs_files.specs.Values.{item}
use Rattle.vfs_listings.proofs.Putting.{adds_whole, adds_cut}
use Rattle.vfs_listings.proofs.record.add_plain.Goals as goal

pub returns-in-Ok : goal.returns-in-Ok
returns-in-Ok c =
    let name = ap length c.to_bytes-name.ensures in
    adds_whole c.args.max None (item c.args.dir_entry) c.args.w.now c.put_dirent.new.w
    c.len_after-len.result c.put_dirent.result (omega (arith, name, c.len_after-len.ensures))
    (omega (arith, name)) (omega arith) c.put_dirent.ensures (rw c.in-Ok.is refl) tt

pub returns-in-Err : goal.returns-in-Err
returns-in-Err c =
    let name = ap length c.to_bytes-name.ensures in
    adds_cut c.args.max None (item c.args.dir_entry) c.args.w.now c.put_dirent.new.w
    c.len_after-len.result c.put_dirent.result c.in-Err.field-0 (omega (arith, name, c.len_after-len.ensures))
    (omega (arith, name)) (omega arith) c.put_dirent.ensures c.in-Err.is
