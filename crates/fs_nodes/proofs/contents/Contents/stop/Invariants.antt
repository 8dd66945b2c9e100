use Rattle.std.proofs.Common.{◌≡◌, ◌-◌}
use Rattle.fs_nodes.specs.Pages.{reach}
use Rattle.fs_nodes.proofs.contents.Contents.stop.Given as goal

abbrev pub invariant-go : goal.invariant-go
invariant-go l =
    reach l.self.held l.left l.page (l.fn.end - l.page)
    ≡ reach l.self.held l.fn.free l.fn.first (l.fn.end - l.fn.first)
