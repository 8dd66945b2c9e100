use Rattle.std.proofs.Common.{ap, sym, ◌∙◌}
use Rattle.vfs_wire.specs.Fields.{row}
use Rattle.vfs_wire.specs.FieldLaws.{row-numbers}
use Rattle.vfs_wire.proofs.laws.put_after_take.Goals as goal

pub returns : goal.returns
returns g c = λ b bytes len.
    let again = g.met.T.ByteValued.fields_made b bytes in
    ap (row g.T.ByteValued.table.widths) again ∙ row-numbers g.T.ByteValued.table.widths b bytes (len ∙ sym g.met.T.ByteValued.size_is)
