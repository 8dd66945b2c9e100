use Rattle.std.proofs.Common.{◌∙◌}
use Rattle.vfs_wire.specs.FieldLaws.{length-bytes_of}
use Rattle.vfs_wire.proofs.laws.bytes_have_size.Goals as goal

pub returns : goal.returns
returns g c = λ x fit. length-bytes_of g.T.ByteValued.table x fit ∙ g.met.T.ByteValued.size_is
