use Rattle.std.proofs.Common.{length, sym, ap, ◌∙◌}
use Rattle.fs_nodes.specs.Contents.{Contents}
use Rattle.fs_nodes.proofs.Shown.{length-bytes_of}
use Rattle.fs_nodes.proofs.contents.Contents.len.Goals as goal

pub returns : goal.returns
returns c =
    sym (length-bytes_of c.self.inside.pages c.self.inside.size)
    ∙ ap (λ (k : Contents). length k.bytes) c.self.view_is
