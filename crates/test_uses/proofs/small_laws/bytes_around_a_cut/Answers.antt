use Rattle.std.proofs.Common.{[], ◌∷◌, arith}
use Rattle.test_uses.proofs.small_laws.bytes_around_a_cut.Goals as goal

pub returns-clause-together : goal.returns-clause-together
returns-clause-together c = λ after. c.together_in_a_segment.ensures (3 ∷ []) after 5 0 5 (omega arith)

pub returns-clause-apart : goal.returns-clause-apart
returns-clause-apart c = λ after. c.together_over_a_cut.ensures (3 ∷ []) (5 ∷ after) 2 2 (omega arith) (omega arith)
