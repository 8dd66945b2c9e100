use Rattle.vhost_protocol.proofs.Steps.{within}
use Rattle.vhost_protocol.proofs.chains.laws.steps_are_within.Goals as goal

pub returns : goal.returns
returns c regions w d = within regions w d
