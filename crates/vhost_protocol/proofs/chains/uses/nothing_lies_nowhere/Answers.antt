use Rattle.std.proofs.Common.{[], subst}
use Rattle.vhost_protocol.specs.Chains.{IsWithin}
use Rattle.vhost_protocol.specs.declared.chains.walk.Step.{Step}
use Rattle.vhost_protocol.proofs.chains.uses.nothing_lies_nowhere.Goals as goal

pub returns : goal.returns
returns c w d piece is = (subst (λ (s : Step). IsWithin [] w d s) is (c.steps_are_within.ensures [] w d)).1
