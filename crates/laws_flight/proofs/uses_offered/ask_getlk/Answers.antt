use Rattle.vfs_wire.specs.Fields.{number}
use Rattle.laws_flight.proofs.uses_offered.ask_getlk.Goals as goal

pub returns-clause-row : goal.returns-clause-row
unfolding number
returns-clause-row c = (rw (c.requires) at c.what.ensures).0

pub returns-clause-told : goal.returns-clause-told
unfolding number
returns-clause-told c = (rw (c.requires) at c.what.ensures).1
