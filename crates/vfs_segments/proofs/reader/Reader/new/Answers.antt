use Rattle.vfs_segments.specs.Segments.{segments_of}
use Rattle.vfs_segments.proofs.Together.{pieces_of_all}
use Rattle.vfs_segments.proofs.reader.Reader.new.Goals as goal

pub returns-clause-pieces : goal.returns-clause-pieces
returns-clause-pieces c =
    rw c.in_ok-segments.ensures.bytes (pieces_of_all (segments_of c.args.segments.now) c.in-Some.end c.in-Some.ensures)
