use Rattle.std.proofs.Common.{rules}
use Rattle.vfs_segments.proofs.reader.ReaderRead.read_exact.Goals as goal

pub returns-clause-answers : goal.returns-clause-answers
returns-clause-answers c = search rules
