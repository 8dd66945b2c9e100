use Rattle.std.proofs.Common.{rules}
use Rattle.vfs_bench.proofs.recorder.Recorder.note.Goals as goal

pub returns-else-len-self-clause-noted : goal.returns-else-len-self-clause-noted
returns-else-len-self-clause-noted c = search rules
