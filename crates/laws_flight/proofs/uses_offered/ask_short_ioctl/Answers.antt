use Rattle.vfs_wire.specs.Fields.{number}
use Rattle.laws_flight.proofs.uses_offered.ask_short_ioctl.Goals as goal

pub returns : goal.returns
unfolding number
returns c = (rw (c.requires) at c.what.ensures).0
