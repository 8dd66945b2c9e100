use Rattle.laws_turns.proofs.Directories.{stops, whole, few}
use Rattle.laws_turns.proofs.turns.directories_are_read.Goals as goal

pub returns-clause-stops : goal.returns-clause-stops
returns-clause-stops c = λ limits options after t echo l turn lists. stops limits options after t echo l turn lists

pub returns-clause-whole : goal.returns-clause-whole
returns-clause-whole c = λ limits options after t echo l turn lists. whole limits options after t echo l turn lists

pub returns-clause-few : goal.returns-clause-few
returns-clause-few c = λ limits options after t echo l turn lists. few limits options after t echo l turn lists
