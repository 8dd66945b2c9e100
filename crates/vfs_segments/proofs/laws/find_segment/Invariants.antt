use Rattle.std.proofs.Common.{◌≡◌, ℕ, ◌-◌, ◌^◌, ◌<◌, ◌≤◌, length, slice_index}
use Rattle.vfs_segments.proofs.laws.find_segment.Given as goal

abbrev pub invariant-loop-low : goal.invariant-loop-low
invariant-loop-low g l = record {
  same : g.T.Totals.totals l.totals ≡ g.T.Totals.totals l.fn.totals;
  ordered : l.low ≤ l.high;
  within : l.high ≤ length (g.T.Totals.totals l.fn.totals);
  passed : (i : ℕ) → i < l.low → slice_index (g.T.Totals.totals l.fn.totals) i ≤ l.at;
  above : l.high < length (g.T.Totals.totals l.fn.totals) → l.at < slice_index (g.T.Totals.totals l.fn.totals) l.high;
  few : (k : ℕ) → length (g.T.Totals.totals l.fn.totals) < 2 ^ k → (g.T.Totals.looks l.totals ≤ k) × (l.high - l.low < 2 ^ (k - g.T.Totals.looks l.totals));
}

abbrev pub decreases-loop-low : goal.decreases-loop-low
decreases-loop-low g l = l.high - l.low
