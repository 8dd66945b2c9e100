use Rattle.std.proofs.Common.{arith}
use Rattle.laws_turns.proofs.uses.refusals.no_flags_agree_on_nothing.Goals as goal

pub returns : goal.returns
returns c = λ limits options after want t whole low high.
    let told = c.agreed_options_are_told.ensures limits options after want t whole in omega (arith, told, low, high)
