use Rattle.laws_turns.proofs.Said.{flags_said}
use Rattle.laws_turns.proofs.turns.agreed_options_are_told.Goals as goal

pub returns : goal.returns
returns c = λ limits options after want t answered. flags_said limits options after t want answered
