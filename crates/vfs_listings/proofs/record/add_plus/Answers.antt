use Rattle.std.proofs.Common.{Some, ap, arith, length, refl}
use Rattle.vfs_files.specs.Values.{item}
use Rattle.vfs_listings.proofs.Putting.{adds_whole, adds_cut}
use Rattle.vfs_listings.proofs.record.add_plus.Goals as goal

pub returns-in-Ok : goal.returns-in-Ok
returns-in-Ok c =
    let name = ap length c.to_bytes-name.ensures in
    adds_whole c.args.max (Some c.args.entry.now) (item c.args.dir_entry) c.args.w.now
    c.put_direntplus.new.w c.len_after-plus_len.result c.put_direntplus.result
    (omega (arith, name, c.len_after-plus_len.ensures))
    (omega (arith, name)) (omega arith) c.put_direntplus.ensures.puts (rw c.in-Ok.is refl)
    c.put_direntplus.ensures.fits

pub returns-in-Err : goal.returns-in-Err
returns-in-Err c =
    let name = ap length c.to_bytes-name.ensures in
    adds_cut c.args.max (Some c.args.entry.now) (item c.args.dir_entry) c.args.w.now
    c.put_direntplus.new.w c.len_after-plus_len.result c.put_direntplus.result
    c.in-Err.field-0 (omega (arith, name, c.len_after-plus_len.ensures))
    (omega (arith, name)) (omega arith) c.put_direntplus.ensures.puts c.in-Err.is
