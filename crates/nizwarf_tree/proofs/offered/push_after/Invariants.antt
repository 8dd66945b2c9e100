use Rattle.std.proofs.Common.{◌≡◌, ◌++◌, ◌-◌, length, take, drop}
use Rattle.std.specs.List.{concat}
use Rattle.vfs_segments.specs.Segments.{flat_bytes, segments_of}
use Rattle.nizwarf_tree.proofs.offered.push_after.Given as goal

abbrev pub invariant-loop-i : goal.invariant-loop-i
invariant-loop-i l = record {
  left : l.left ≡ l.count - length (concat (take l.i (segments_of l.request)));
  added :
      flat_bytes (segments_of l.list.items)
      ≡ flat_bytes (segments_of l.fn.list.items) ++ drop l.count (concat (take l.i (segments_of l.request)));
}
