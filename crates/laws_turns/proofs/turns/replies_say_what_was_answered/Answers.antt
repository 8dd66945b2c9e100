use Rattle.laws_turns.proofs.Said.{body_said, entry_said, attributes_said, opening_said, creation_said, count_said, written_said}
use Rattle.laws_turns.proofs.turns.replies_say_what_was_answered.Goals as goal

pub returns-clause-body : goal.returns-clause-body
returns-clause-body c = λ limits options after t answer answered. body_said limits options after t answer answered

pub returns-clause-entry : goal.returns-clause-entry
returns-clause-entry c = λ limits options after t entry answered. entry_said limits options after t entry answered

pub returns-clause-attributes : goal.returns-clause-attributes
returns-clause-attributes c = λ limits options after t attributes timeout answered. attributes_said limits options after t attributes timeout answered

pub returns-clause-opening : goal.returns-clause-opening
returns-clause-opening c = λ limits options after t handle how answered. opening_said limits options after t handle how answered

pub returns-clause-creation : goal.returns-clause-creation
returns-clause-creation c = λ limits options after t entry handle how answered. creation_said limits options after t entry handle how answered

pub returns-clause-count : goal.returns-clause-count
returns-clause-count c = λ limits options after t size answered. count_said limits options after t size answered

pub returns-clause-written : goal.returns-clause-written
returns-clause-written c = λ limits options after t count answered. written_said limits options after t count answered
