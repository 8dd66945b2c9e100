use Rattle.std.proofs.Common.{sym, ◌∙◌}
use Rattle.laws_turns.proofs.uses.refusals.no_call_keeps_the_options.Goals as goal

pub returns : goal.returns
returns c = λ limits options after t turn none.
    c.other_requests_keep_the_options.ensures limits options after t turn
    (λ offered want is. absurd (let e = sym none ∙ is in cc)) (λ answer is. absurd (let e = sym none ∙ is in cc))
