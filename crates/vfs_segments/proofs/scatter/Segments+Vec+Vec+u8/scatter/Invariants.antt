use Rattle.std.proofs.Common.{◌≡◌, ◌≤◌, ◌+◌, length, drop, take}
use Rattle.std.specs.List.{concat}
use Rattle.vfs_segments.specs.Segments.{lengths_of, with_bytes_at}
use Rattle.vfs_segments.proofs.Puts.{IsTurn}
use Rattle.vfs_segments.proofs.scatter.Segments+Vec+Vec+u8.scatter.Given as goal

abbrev pub invariant-loop-i : goal.invariant-loop-i
invariant-loop-i l = record {
  within : l.done ≤ length l.bytes;
  count : length l.self ≡ length l.initial.self;
  turn : IsTurn l.self l.i l.skip (drop l.done l.bytes) (with_bytes_at (length (concat (take l.first l.initial.self)) + l.initial.skip) l.bytes (concat l.initial.self));
  lengths : lengths_of l.self ≡ lengths_of l.initial.self;
}
