use Rattle.std.proofs.Common.{◌≡◌, ◌+◌, ◌-◌, ◌≤◌, ◌++◌, length, take, drop}
use Rattle.std.specs.List.{concat}
use Rattle.vfs_segments.proofs.gather.Segments+ref+slice+ref+slice+u8.copied.Given as goal

abbrev pub invariant-loop-i : goal.invariant-loop-i
invariant-loop-i l = record {
  within : length l.bytes.items ≤ l.n;
  fits : l.skip + (l.n - length l.bytes.items) ≤ length (concat (drop l.i l.self));
  bytes : l.bytes.items ++ take (l.n - length l.bytes.items) (drop l.skip (concat (drop l.i l.self))) ≡ take l.n (drop l.at (concat l.self));
}
