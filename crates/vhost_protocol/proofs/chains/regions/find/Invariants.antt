use Rattle.std.proofs.Common.{◌≡◌, drop}
use Rattle.vhost_protocol.specs.Regions.{place_from}
use Rattle.vhost_protocol.proofs.chains.regions.find.Given as goal

-- the regions before this one have them not
abbrev pub invariant-loop-number : goal.invariant-loop-number
invariant-loop-number l =
    place_from 0 l.regions l.addr l.len ≡ place_from l.number (drop l.number l.regions) l.addr l.len
