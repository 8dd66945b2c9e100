use Rattle.std.proofs.Common.{rules}
use Rattle.vfs_segments.proofs.lend.Segments+ref+slice+ref+slice+u8.is_one_piece.Goals as goal

pub returns : goal.returns
returns c = search rules
