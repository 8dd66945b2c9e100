use Rattle.std.proofs.Common.{◌≡◌, take, length}
use Rattle.std.specs.Prelude.{replicate}
use Rattle.std.specs.List.{concat}
use Rattle.vfs_segments.specs.Views.{IsSameRoom}
use Rattle.test_uses.proofs.views.ZerosPositionedFile.read_vectored_at.Given as goal

abbrev pub invariant-loop-i : goal.invariant-loop-i
invariant-loop-i l = record {
  same_room : IsSameRoom l.fn.view l.view;
  zeros : concat (take l.i l.view.pieces) ≡ replicate (length (concat (take l.i l.view.pieces))) 0;
}
