use Rattle.std.proofs.Common.{◌≡◌, ◌+◌, ◌-◌, ◌≤◌}
use Rattle.fs_nodes.specs.Pages.{missing}
use Rattle.fs_nodes.proofs.contents.Contents.lacking.Given as goal

abbrev pub invariant-count : goal.invariant-count
invariant-count l = record {
  sum : l.missing + missing l.self.held l.page (l.end - l.page)
      ≡ missing l.self.held l.first (l.end - l.first);
  small : l.missing ≤ l.page;
}
