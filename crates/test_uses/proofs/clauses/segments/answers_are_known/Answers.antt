use Rattle.test_uses.proofs.clauses.segments.answers_are_known.Goals as goal

pub returns-clause-available : goal.returns-clause-available
returns-clause-available c = λ u v n answers. let is = answers.0 in cc (is)

pub returns-clause-taken : goal.returns-clause-taken
returns-clause-taken c = λ u v n answers. let is = answers.0 in cc (is)

pub returns-clause-read : goal.returns-clause-read
returns-clause-read c = λ u v n buf bytes answers. let is = answers.0 in (cc (is), cc (is))
