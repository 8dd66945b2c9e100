use Rattle.std.proofs.Common.{◌∙◌, sym}
use Rattle.vfs_messages.proofs.reply.part_size.Goals as goal

pub returns-in-Some-clause-size : goal.returns-in-Some-clause-size
returns-in-Some-clause-size g c = rw c.in-Some.is (c.SIZE.ensures ∙ sym g.met.T.ByteValued.size_is)
