use Rattle.std.proofs.Common.{◌≡◌, ◌+◌, ◌-◌, ◌≤◌, ◌++◌, length, take, drop}
use Rattle.std.specs.List.{concat}
use Rattle.vfs_segments.proofs.gather.Segments+ref+slice+ref+slice+u8.gather.Given as goal

abbrev pub invariant-loop-i : goal.invariant-loop-i
invariant-loop-i l = record {
  within : l.done ≤ length l.buf;
  fits : l.skip + (length l.buf - l.done) ≤ length (concat (drop l.i l.self));
  bytes : take l.done l.buf ++ take (length l.buf - l.done) (drop l.skip (concat (drop l.i l.self))) ≡ take (length l.initial.buf) (drop l.initial.skip (concat (drop l.first l.self)));
}
