use Rattle.std.proofs.Common.{◌≤◌, ◌+◌, length}
use Rattle.fs_tree.specs.State.{following}
use Rattle.fs_tree.proofs.Releasing.{IsLeft}
use Rattle.fs_tree.proofs.fs.TreeFs.release_each.Given as goal

abbrev pub invariant-loop-i : goal.invariant-loop-i
invariant-loop-i l = record {
  left : IsLeft l.fn.self l.self l.done;
  few : length (following l.done l.self.nodes) + l._i ≤ l._i-end;
}
