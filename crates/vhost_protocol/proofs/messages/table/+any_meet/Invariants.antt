use Rattle.std.proofs.Common.{length}
use Rattle.vhost_protocol.proofs.messages.table.+any_meet.Given as goal

abbrev pub decreases-any_meet : goal.decreases-any_meet
decreases-any_meet l = length l.regions.now
