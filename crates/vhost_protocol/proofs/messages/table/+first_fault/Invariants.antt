use Rattle.std.proofs.Common.{length}
use Rattle.vhost_protocol.proofs.messages.table.+first_fault.Given as goal

abbrev pub decreases-first_fault : goal.decreases-first_fault
decreases-first_fault l = length l.regions.now
