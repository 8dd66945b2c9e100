use Rattle.std.proofs.Common.{ap, ◌∙◌}
use Rattle.vfs_wire.specs.FieldLaws.{numbers-row}
use Rattle.vfs_wire.proofs.laws.take_after_put.Goals as goal

pub returns : goal.returns
returns g c = λ x fit range.
    let read = numbers-row g.T.ByteValued.table.widths (g.T.ByteValued.table.fields x) fit in
    ap g.T.ByteValued.table.made read ∙ g.met.T.ByteValued.made_fields x range
