use Rattle.laws_turns.proofs.Staying.{same_length, same_room}
use Rattle.laws_turns.proofs.turns.rooms_stay.Goals as goal

pub returns-clause-length : goal.returns-clause-length
returns-clause-length c = λ limits options after t turn. same_length limits options after t turn

pub returns-clause-silent : goal.returns-clause-silent
returns-clause-silent c = λ limits options after t turn o. same_room limits options after t turn o
