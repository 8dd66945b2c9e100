use Rattle.std.proofs.Common.{◌≡◌, length, min, take}
use Rattle.std.specs.List.{concat}
use Rattle.vfs_segments.specs.Views.{IsSameRoom}
use Rattle.vfs_files.proofs.bytes.put_pieces.Given as goal

abbrev pub invariant-loop-i : goal.invariant-loop-i
invariant-loop-i l = record {
  same_room : IsSameRoom l.fn.view l.view;
  done : l.done ≡ min (length l.bytes) (length (concat (take l.i l.view.pieces)));
  put : take l.done (concat (take l.i l.view.pieces)) ≡ take l.done l.bytes;
}
