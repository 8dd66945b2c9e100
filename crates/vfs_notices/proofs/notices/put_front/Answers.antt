use Rattle.vfs_wire.specs.Fields.{bytes_of}
use Rattle.vfs_notices.specs.Notices.{header}
use Rattle.vfs_notices.proofs.Joined.{joined}
use Rattle.vfs_notices.proofs.notices.put_front.Goals as goal

pub returns : goal.returns
returns g c =
    let e = joined (header c.args.number c.args.len) (bytes_of g.T.ByteValued.table c.args.told.now)
    c.split_at_mut-front.result.0.now c.split_at_mut-front.result.1.now c.args.out.now 16
    g.T.ByteValued.SIZE c.split_at_mut-front.ensures.front_len c.split_at_mut-front.ensures.value in
    let h = c.put_header.ensures in
    let f = c.put_first.ensures.bytes in
    cc
