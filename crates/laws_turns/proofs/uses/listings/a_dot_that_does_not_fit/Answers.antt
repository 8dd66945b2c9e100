use Rattle.std.proofs.Common.{true}
use Rattle.laws_turns.proofs.Lines.{dot_back, dot_is_given_back, dot_back_goes_on}
use Rattle.laws_turns.proofs.uses.listings.a_dot_that_does_not_fit.Goals as goal

pub returns : goal.returns
returns c = λ ctx parent size room n body result h roomy. dot_is_given_back ctx parent size n body result
    (c.directories_are_whole.ensures true ctx parent size room (dot_back ctx parent n) body result h roomy
    (dot_back_goes_on ctx parent n))
