use Rattle.std.proofs.Common.{◌≡◌}
use Rattle.vfs_files.specs.Answers.{Plain}
use Rattle.vfs_files.specs.Calls.{default_answer}
use Rattle.test_uses.proofs.ServeCallers.{served-statfs}
use Rattle.test_uses.proofs.server.serve.serve_statfs.Goals as goal

pub returns : goal.returns
returns c =
    served-statfs _ _ (λ s t call answer allowed. let e : Plain answer ≡ Plain (default_answer call) = allowed in cc)
    c.new-server.result c.serve.result c.serve.new.server c.serve.ensures.served
