use Rattle.std.proofs.Common.{ap, ◌∙◌, ◌+◌, ◌-◌, arith}
use Rattle.vfs_wire.proofs.Placed.{numbers-part}
use Rattle.vfs_wire.proofs.parts.part_at.Goals as goal

pub returns-clause-read : goal.returns-clause-read
returns-clause-read g c =
    let widths = g.T.ByteValued.table.widths in
    let read = numbers-part c.args.at (c.args.at + c.SIZE.result - c.args.at) widths c.args.b.now (omega (arith, c.SIZE.ensures, g.met.T.ByteValued.size_is)) in
    c.take.ensures.read ∙ ap g.T.ByteValued.table.made read
