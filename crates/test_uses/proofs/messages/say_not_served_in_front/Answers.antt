use Rattle.std.proofs.Common.{ap}
use Rattle.vfs_wire.specs.Fields.{little}
use Rattle.vfs_segments.specs.Written.{Written}
use Rattle.test_uses.proofs.messages.say_not_served_in_front.Goals as goal

pub returns-clause-bytes : goal.returns-clause-bytes
unfolding little
returns-clause-bytes c = ap (λ (w : Written). w.passed) (c.reply_error.ensures.held c.requires)
