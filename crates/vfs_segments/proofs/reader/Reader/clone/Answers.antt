use Rattle.std.proofs.Common.{rules}
use Rattle.vfs_segments.proofs.reader.Reader.clone.Goals as goal

pub returns-clause-ok : goal.returns-clause-ok
returns-clause-ok c = search rules
