use Rattle.std.proofs.Common.{◌≡◌, ◌∙◌, arith, length, append-nil}
use Rattle.vfs_wire.specs.Fields.{bytes_of}
use Rattle.vfs_wire.specs.FieldLaws.{length-bytes_of}
use Rattle.vfs_messages.proofs.reply.reply_record.Goals as goal

pub returns-clause-replied : goal.returns-clause-replied
returns-clause-replied g c =
    let body = bytes_of g.T.ByteValued.table c.args.out in
    let size : length body ≡ g.T.ByteValued.SIZE =
    length-bytes_of g.T.ByteValued.table c.args.out c.reply_parts.ensures.in_width ∙ g.met.T.ByteValued.size_is in
    let alone = append-nil body in
    (rw alone at c.reply_parts.ensures.replied) (omega (arith, size, g.met.T.ByteValued.size_small))
