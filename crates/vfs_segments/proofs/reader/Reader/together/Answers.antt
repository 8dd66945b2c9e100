use Rattle.std.proofs.Common.{◌∙◌}
use Rattle.vfs_segments.proofs.Places.{together_in}
use Rattle.vfs_segments.proofs.reader.Reader.together.Goals as goal

pub returns : goal.returns
returns c =
    c.is_one_piece.ensures
    ∙ together_in c.self.inside c.self.invariant c.args.self.now c.self.view_is c.args.at c.args.n
