use Rattle.std.proofs.Common.{rules}
use Rattle.vfs_bench.proofs.PlainOutcomes.{plain_outcome-attr}
use Rattle.vfs_bench.proofs.recorder.RecorderFileSystem.getattr.Goals as goal

pub returns : goal.returns
returns g c = (search rules, search (rules, plain_outcome-attr c.getattr-answer.result))
