use Rattle.vfs_segments.proofs.AnswerLemmas.{alike, all_answered}
use Rattle.vfs_segments.proofs.laws.equal_bytes_answer_alike.Goals as goal

pub returns-clause-alike : goal.returns-clause-alike
returns-clause-alike c = alike

pub returns-clause-answered : goal.returns-clause-answered
returns-clause-answered c = all_answered
