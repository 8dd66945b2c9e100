use Rattle.std.proofs.Common.{arith, rules}
use Rattle.vfs_files.specs.Answers.{IsAnswer}
use Rattle.vfs_files.specs.Calls.{Call, kind_of, default_answer, Init, Open, Opendir, Statfs, Forget, BatchForget, Destroy}
use Rattle.vfs_files.proofs.laws.default_answers_are_of_their_kind.Goals as goal

-- the calls with an answer of their own, and then those that fail
is_of_its_kind : (call : Call) → IsAnswer (kind_of call) (default_answer call)
is_of_its_kind (Init _) = omega arith
is_of_its_kind (Open _ _ _ _) = search rules
is_of_its_kind (Opendir _ _ _) = search rules
is_of_its_kind (Statfs _ _) = search rules
is_of_its_kind (Forget _ _ _) = tt
is_of_its_kind (BatchForget _ _) = tt
is_of_its_kind Destroy = tt
is_of_its_kind _ = (omega arith, omega arith)

pub returns : goal.returns
returns g = is_of_its_kind
