use Rattle.std.proofs.Common.{arith}
use Rattle.vhost_protocol.proofs.messages.uses.share_what_can_be.Goals as goal

pub returns-in-Ok-clause-guest : goal.returns-in-Ok-clause-guest
returns-in-Ok-clause-guest c k none within = (c.in-Ok.ensures.memory.can_be.are k none within).guest

pub returns-in-Ok-clause-user : goal.returns-in-Ok-clause-user
returns-in-Ok-clause-user c k none within = (c.in-Ok.ensures.memory.can_be.are k none within).user

pub returns-in-Ok-clause-file : goal.returns-in-Ok-clause-file
returns-in-Ok-clause-file c k none within = (c.in-Ok.ensures.memory.can_be.are k none within).file

pub returns-in-Ok-clause-described : goal.returns-in-Ok-clause-described
returns-in-Ok-clause-described c =
    omega (arith, c.in-Ok.ensures.memory.with_descriptors, c.in-Ok.ensures.descriptors)
