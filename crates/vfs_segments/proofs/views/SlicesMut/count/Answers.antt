use Rattle.std.proofs.Common.{ap, ◌∙◌, sym, length}
use Rattle.vfs_segments.specs.Views.{Room}
use Rattle.vfs_segments.specs.ViewInside.{all_of}
use Rattle.vfs_segments.proofs.ViewPieces.{length-pieces_of}
use Rattle.vfs_segments.proofs.views.SlicesMut.count.Goals as goal

pub returns-clause-count : goal.returns-clause-count
returns-clause-count c =
    let v = c.self.inside in
    sym (length-pieces_of v.span (all_of v) c.self.invariant.span_in)
    ∙ ap (λ (r : Room). length r.pieces) c.self.view_is
