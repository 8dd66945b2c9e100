use Rattle.std.proofs.Common.{ap, ◌∙◌}
use Rattle.fs_nodes.specs.Pages.{Pages, byte_at}
use Rattle.fs_nodes.proofs.HeldPages.{no_bytes}
use Rattle.fs_nodes.proofs.contents.Contents.new.Goals as goal

pub invariant_of-result : goal.invariant_of-result
invariant_of-result c =
    λ place following. ap (λ (p : Pages). byte_at p place) c.new.ensures ∙ no_bytes place
