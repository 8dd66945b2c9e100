use Rattle.std.proofs.Common.{ap, sym, ◌∙◌}
use Rattle.vfs_wire.specs.Fields.{row}
use Rattle.vfs_wire.specs.FieldLaws.{AreBytes-row, numbers-row}
use Rattle.vfs_wire.proofs.laws.decoding_is_the_inverse.Goals as goal

pub returns : goal.returns
returns g c = record {
  made_of_fields = g.met.T.ByteValued.made_fields;
  fields_of_made = λ xs fit.
      let read = numbers-row g.T.ByteValued.table.widths xs fit in
      let made = ap (λ ns. g.T.ByteValued.table.fields (g.T.ByteValued.table.made ns)) read in
      sym made ∙ (g.met.T.ByteValued.fields_made (row g.T.ByteValued.table.widths xs) (AreBytes-row g.T.ByteValued.table.widths xs) ∙ read);
}
