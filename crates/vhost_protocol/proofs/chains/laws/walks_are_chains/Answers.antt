use Rattle.vhost_protocol.proofs.Walked.{chain_of, goes_along}
use Rattle.vhost_protocol.proofs.chains.laws.walks_are_chains.Goals as goal

pub returns : goal.returns
returns c rs ind table size most head w ds ps is =
    (chain_of rs ind table size most head w ds ps is, goes_along rs ind table size most head w ds ps is)
