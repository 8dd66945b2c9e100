use Rattle.std.proofs.Common.{arith}
use Rattle.std.proofs.lemmas.Grind.{common_steps}
use Rattle.vfs_bench.proofs.recorder.RecorderFileSystem.batch_forget.Goals as goal

pub returns : goal.returns
returns g c = grind (arith, common_steps)
