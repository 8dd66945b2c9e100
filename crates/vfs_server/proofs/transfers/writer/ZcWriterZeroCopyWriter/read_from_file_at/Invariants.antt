use Rattle.std.proofs.Common.{◌-◌}
use Rattle.vfs_files.specs.Transfers.{reads_of}
use Rattle.vfs_server.proofs.Going.{Going}
use Rattle.vfs_server.proofs.Sides.{written}
use Rattle.vfs_server.proofs.transfers.writer.ZcWriterZeroCopyWriter.read_from_file_at.Given as goal

abbrev pub invariant-loop-moved : goal.invariant-loop-moved
invariant-loop-moved g l =
    Going written (reads_of g.P.PositionedFile.read_gives)
    l.count l.off l.fn.f l.fn.self.0 l.moved l.place l.f l.self.0

abbrev pub decreases-loop-moved : goal.decreases-loop-moved
decreases-loop-moved g l = l.count - l.moved
