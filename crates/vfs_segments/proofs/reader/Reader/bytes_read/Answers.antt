use Rattle.std.proofs.Common.{rules}
use Rattle.vfs_segments.proofs.reader.Reader.bytes_read.Goals as goal

pub returns-clause-taken : goal.returns-clause-taken
returns-clause-taken c = search rules
