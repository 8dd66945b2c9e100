use Rattle.std.proofs.Common.{arith}
use Rattle.laws_turns.proofs.Lacking.{as_long, pairs_there, pairs_within}
use Rattle.laws_turns.proofs.uses.turns.broken_requests_want_no_memory.Goals as goal

pub returns-clause-short : goal.returns-clause-short
returns-clause-short c = λ limits options room request short w. absurd (let long = w.header in omega arith)

pub returns-clause-above : goal.returns-clause-above
returns-clause-above c = λ limits options room request above w. absurd (let small = w.in_limit in omega arith)

pub returns-clause-cut : goal.returns-clause-cut
returns-clause-cut c = λ limits options room request other cut w.
    absurd (let long = as_long limits options room request other w in omega arith)

pub returns-clause-few_pairs : goal.returns-clause-few_pairs
returns-clause-few_pairs c = λ limits options room request is few w.
    absurd (let long = pairs_there limits options room request is w in omega arith)

pub returns-clause-many_pairs : goal.returns-clause-many_pairs
returns-clause-many_pairs c = λ limits options room request is many w.
    absurd (let small = pairs_within limits options room request is w in omega arith)
