use Rattle.std.proofs.Common.{subst, arith}
use Rattle.vhost_protocol.specs.Chains.{IsWithin}
use Rattle.vhost_protocol.specs.declared.chains.walk.Step.{Step}
use Rattle.vhost_protocol.proofs.chains.uses.a_table_is_entered_once.Goals as goal

pub returns : goal.returns
returns c regions w next d place is =
    let within = subst (λ (s : Step). IsWithin regions w d s) is (c.steps_are_within.ensures regions w d) in
    (within.1, omega (arith, within.2, within.3), within.4, within.5)
