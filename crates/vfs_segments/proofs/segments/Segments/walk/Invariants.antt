use Rattle.std.proofs.Common.{◌≡◌, ◌+◌, ◌<◌, length, drop, take}
use Rattle.std.specs.List.{concat}
use Rattle.vfs_segments.proofs.segments.Segments.walk.Given as goal

abbrev pub invariant-loop-i : goal.invariant-loop-i
invariant-loop-i g l = record {
  place : length (concat (take l.i l.self)) + l.skip ≡ length (concat (take l.first l.self)) + l.at;
  left : l.skip < length (concat (drop l.i l.self));
}
