use Rattle.vfs_wire.specs.Fields.{number}
use Rattle.laws_flight.proofs.uses_offered.ask_getlk_of_others.Goals as goal

pub returns-clause-ordinary : goal.returns-clause-ordinary
unfolding number
returns-clause-ordinary c = (rw (c.requires) at c.what.ensures).0

pub returns-clause-untold : goal.returns-clause-untold
unfolding number
returns-clause-untold c = (rw (c.requires) at c.what.ensures).1
