use Rattle.std.proofs.Common.{◌≡◌, ◌≤◌, length, take, vec_len, vec_capacity}
use Rattle.std.specs.List.{concat}
use Rattle.vfs_segments.specs.Segments.{lengths_of}
use Rattle.vfs_segments.specs.Totals.{totals_of}
use Rattle.vfs_segments.proofs.segments.many_totals.Given as goal

abbrev pub invariant-loop-i : goal.invariant-loop-i
invariant-loop-i g l = record {
  total : l.total ≡ length (concat (take l.i (g.L.SegmentList.bytes l.list)));
  totals : l.totals.items ≡ totals_of (lengths_of (take l.i (g.L.SegmentList.bytes l.list)));
  count : vec_len l.totals ≡ l.i;
  room : l.count ≤ vec_capacity l.totals;
}
