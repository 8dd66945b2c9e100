use Rattle.std.proofs.Common.{arith, length-append}
use Rattle.vfs_wire.specs.FieldLaws.{length-bytes_of}
use Rattle.vfs_wire.specs.Fields.{bytes_of}
use Rattle.vfs_messages.proofs.reply.reply_both.Goals as goal

pub returns-clause-replied : goal.returns-clause-replied
returns-clause-replied g c =
    c.reply_parts.ensures.replied
    (omega (
      arith,
      length-append (bytes_of g.T.ByteValued.table c.args.out) c.args.following.now,
      length-bytes_of g.T.ByteValued.table c.args.out c.reply_parts.ensures.in_width,
      c.requires,
      g.met.T.ByteValued.size_is,
      g.met.T.ByteValued.size_small,
    ))
