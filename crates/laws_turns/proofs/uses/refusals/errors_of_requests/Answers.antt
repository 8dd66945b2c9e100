use Rattle.std.proofs.Common.{◌∙◌, Err, ap}
use Rattle.laws_turns.proofs.uses.refusals.errors_of_requests.Goals as goal

pub returns : goal.returns
returns c = λ limits options after t e turn refused.
    let never = c.two_errors_are_never_answered.ensures limits options after t turn in
    (λ is. never.0 (refused ∙ ap Err is), λ is. never.1 (refused ∙ ap Err is))
