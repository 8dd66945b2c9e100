use Rattle.std.proofs.Common.{◌≡◌, ◌-◌, ◌≤◌, length, map, take}
use Rattle.vfs_segments.proofs.cut.totals_past.Given as goal

abbrev pub invariant-loop-total : goal.invariant-loop-total
invariant-loop-total l = record {
  past : l.past.items ≡ map (λ total. total - l.at) (take l.total-index l.rest);
  count : length l.past.items ≡ l.total-index;
  room : length l.rest ≤ l.past.capacity;
}
