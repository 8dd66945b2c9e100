use Rattle.std.proofs.Common.{arith}
use Rattle.vhost_protocol.proofs.chains.uses.by_counts.Goals as goal

pub returns-clause-waiting : goal.returns-clause-waiting
returns-clause-waiting c made taken now next ordered few =
    c.waiting.ensures.counted made taken now next ordered (omega (arith, few)) (omega (arith, few, c.requires.small))

pub returns-clause-slot : goal.returns-clause-slot
returns-clause-slot c taken next = c.slot.ensures.counted taken next c.requires.power
