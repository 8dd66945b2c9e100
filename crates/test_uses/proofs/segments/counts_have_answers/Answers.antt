use Rattle.std.proofs.Common.{[], ◌∷◌}
use Rattle.vfs_segments.specs.Answers.{Available, Taken}
use Rattle.test_uses.proofs.segments.counts_have_answers.Goals as goal

pub returns : goal.returns
returns c = λ u. c.equal_bytes_answer_alike.ensures.answered u (Available ∷ Taken ∷ [])
