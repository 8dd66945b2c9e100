use Rattle.std.proofs.Common.{◌<◌, ℕ, subst}
use Rattle.vhost_protocol.specs.Chains.{IsWithin}
use Rattle.vhost_protocol.specs.declared.chains.walk.Step.{Step}
use Rattle.vhost_protocol.proofs.chains.uses.a_walk_gets_shorter.Goals as goal

pub returns : goal.returns
returns c regions w next d piece is =
    let within = subst (λ (s : Step). IsWithin regions w d s) is (c.steps_are_within.ensures regions w d) in
    (within.0, subst (λ (n : ℕ). next.at < n) within.3 within.2, within.4, within.5)
