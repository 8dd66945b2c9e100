use Rattle.std.proofs.Common.{arith}
use Rattle.vhost_protocol.proofs.messages.uses.find_in_two.Goals as goal

pub returns-in-Some : goal.returns-in-Some
returns-in-Some c =
    let place = c.in-Some.ensures in
    (omega (arith, place.is_one, c.requires), λ second. place.is_first 0 (omega (arith, second)))

pub returns-in-None : goal.returns-in-None
returns-in-None c =
    (c.in-None.ensures 0 (omega (arith, c.requires)), c.in-None.ensures 1 (omega (arith, c.requires)))
