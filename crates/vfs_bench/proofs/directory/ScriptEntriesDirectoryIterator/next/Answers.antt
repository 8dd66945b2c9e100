use Rattle.std.proofs.Common.{arith}
use Rattle.std.proofs.lemmas.Grind.{common_steps}
use Rattle.vfs_bench.proofs.directory.ScriptEntriesDirectoryIterator.next.Goals as goal

pub returns-in_err-item : goal.returns-in_err-item
returns-in_err-item c = grind (arith, common_steps)

pub returns : goal.returns
returns c = grind (arith, common_steps)
