use Rattle.std.proofs.Common.{ap, ◌∙◌, sym, length}
use Rattle.vfs_segments.specs.Memory.{segments_of}
use Rattle.vfs_segments.proofs.ViewPieces.{length-pieces_of}
use Rattle.vfs_segments.proofs.views.Slices.count.Goals as goal

pub returns-clause-count : goal.returns-clause-count
returns-clause-count c =
    let v = c.self.inside in
    sym (length-pieces_of v.span (segments_of v.segments.now) c.self.invariant) ∙ ap length c.self.view_is
