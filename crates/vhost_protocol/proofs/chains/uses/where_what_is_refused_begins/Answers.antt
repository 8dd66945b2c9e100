use Rattle.std.proofs.Common.{subst, ap, is_some}
use Rattle.vhost_protocol.specs.Chains.{IsWithin}
use Rattle.vhost_protocol.specs.declared.chains.walk.Step.{Step}
use Rattle.vhost_protocol.proofs.chains.uses.where_what_is_refused_begins.Goals as goal

pub returns-clause-past_end : goal.returns-clause-past_end
returns-clause-past_end c regions w d is =
    let reason = subst (λ (s : Step). IsWithin regions w d s) is (c.steps_are_within.ensures regions w d) in
    ap is_some reason.2

pub returns-clause-outside : goal.returns-clause-outside
returns-clause-outside c regions w d is =
    let reason = subst (λ (s : Step). IsWithin regions w d s) is (c.steps_are_within.ensures regions w d) in
    ap is_some reason.1
