use Rattle.std.proofs.Common.{rules}
use Rattle.vfs_bench.proofs.PlainOutcomes.{plain_outcome-attr}
use Rattle.vfs_bench.proofs.recorder.RecorderFileSystem.setattr.Goals as goal

pub returns : goal.returns
returns g c = (search rules, search (rules, plain_outcome-attr c.setattr-answer.result))
