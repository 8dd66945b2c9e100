use Rattle.std.proofs.Common.{arith}
use Rattle.std.proofs.Common.{slice_index_or}
use Rattle.vhost_protocol.specs.Tables.{shared}
use Rattle.vhost_protocol.proofs.messages.uses.share_two.Goals as goal

pub returns-in-Ok : goal.returns-in-Ok
returns-in-Ok c none two same =
    let can_be = c.in-Ok.ensures.memory.can_be in
    let first = can_be.are 0 none (omega (arith, two)) in
    let second = can_be.are 1 none two in
    can_be.apart 0 1 none (omega arith) two (slice_index_or (shared c.in-Ok.said.memory) 0 none).guest
    (omega arith, omega (arith, first.has_bytes)) (omega (arith, same), omega (arith, same, second.has_bytes))
