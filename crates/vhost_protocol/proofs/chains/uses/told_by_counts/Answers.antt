use Rattle.std.proofs.Common.{arith}
use Rattle.vhost_protocol.proofs.chains.uses.told_by_counts.Goals as goal

pub returns-clause-told : goal.returns-clause-told
returns-clause-told c before count after old event new first then few =
    (c.needs_event.ensures.counted before after old new (omega (arith, first, then)) (omega (arith, few, first, then))).1
    (count, first, then, event)

pub returns-clause-not_told : goal.returns-clause-not_told
returns-clause-not_told c count old new told =
    let found = (c.needs_event.ensures.counted count count old new (omega arith) (omega arith)).0 told in
    omega (arith, found.1, found.2)
