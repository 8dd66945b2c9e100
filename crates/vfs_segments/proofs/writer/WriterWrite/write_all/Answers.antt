use Rattle.std.proofs.Common.{rules}
use Rattle.vfs_segments.proofs.writer.WriterWrite.write_all.Goals as goal

pub returns-then-buf-room-clause-wrote : goal.returns-then-buf-room-clause-wrote
returns-then-buf-room-clause-wrote c = search rules
