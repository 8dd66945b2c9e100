use Rattle.std.proofs.Common.{rules}
use Rattle.vfs_bench.proofs.PlainOutcomes.{plain_outcome-done}
use Rattle.vfs_bench.proofs.recorder.RecorderFileSystem.syncfs.Goals as goal

pub returns : goal.returns
returns g c = search (rules, plain_outcome-done)
