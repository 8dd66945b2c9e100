use Rattle.std.proofs.Common.{◌∙◌, arith}
use Rattle.test_uses.proofs.clauses.segments.together_before_a_cut.Goals as goal

pub returns : goal.returns
returns c = λ lengths together.
    c.together_after_a_place.ensures.before lengths 5 1 2 (omega arith) ∙ together
