use Rattle.std.proofs.Common.{refl}
use Rattle.vfs_wire.proofs.Placed.{row-append}
use Rattle.vfs_wire.proofs.parts.put_first.Goals as goal

pub returns-clause-written : goal.returns-clause-written
returns-clause-written g c =
    rw (c.put.ensures.written, c.SIZE.ensures) (row-append g.T.ByteValued.table.widths (g.T.ByteValued.table.fields c.args.x.now) _)

pub returns-clause-bytes : goal.returns-clause-bytes
returns-clause-bytes g c = rw (c.put.ensures.written, c.SIZE.ensures) refl
