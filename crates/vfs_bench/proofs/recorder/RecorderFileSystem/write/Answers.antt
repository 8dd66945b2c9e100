use Rattle.std.proofs.Common.{rules}
use Rattle.vfs_bench.proofs.PlainOutcomes.{plain_outcomes}
use Rattle.vfs_bench.proofs.recorder.RecorderFileSystem.write.Goals as goal

pub returns : goal.returns
returns g c = search (rules, plain_outcomes)
