use Rattle.std.proofs.Common.{◌≤◌, ◌<◌, ℕ, ◌-◌, length, get_or}
use Rattle.fs_small.specs.MemFs.{Stored}
use Rattle.fs_small.proofs.memfs.search.Given as goal

abbrev pub invariant-loop-low : goal.invariant-loop-low
invariant-loop-low l = record {
  low : l.low ≤ l.high;
  high : l.high ≤ length l.files;
  below : (k : ℕ) (d : Stored) → k < l.low → (get_or l.files k d).node < l.node;
  above : (k : ℕ) (d : Stored) → l.high ≤ k → k < length l.files → l.node < (get_or l.files k d).node;
}

abbrev pub decreases-loop-low : goal.decreases-loop-low
decreases-loop-low l = l.high - l.low
