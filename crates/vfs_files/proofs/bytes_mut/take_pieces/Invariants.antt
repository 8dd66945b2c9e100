use Rattle.std.proofs.Common.{◌≡◌, length, min, take}
use Rattle.std.specs.List.{concat}
use Rattle.vfs_files.proofs.bytes_mut.take_pieces.Given as goal

abbrev pub invariant-loop-i : goal.invariant-loop-i
invariant-loop-i l = record {
  done : l.done ≡ min (length l.room) (length (concat (take l.i l.view)));
  filled : take l.done l.room ≡ take l.done (concat (take l.i l.view));
}
