use Rattle.test_uses.proofs.clauses.flags.limits_are_powers.Goals as goal

pub returns-clause-page : goal.returns-clause-page
returns-clause-page c = c.limits_have_their_numbers.ensures.least

pub returns-clause-usual : goal.returns-clause-usual
returns-clause-usual c = c.limits_have_their_numbers.ensures.default

pub returns-clause-most : goal.returns-clause-most
returns-clause-most c = c.limits_have_their_numbers.ensures.greatest
