use Rattle.vfs_segments.specs.Views.{IsSameRoom}
use Rattle.vfs_bench.proofs.seeded.contents.fill_pieces.Given as goal

abbrev pub invariant-loop-i : goal.invariant-loop-i
invariant-loop-i l = IsSameRoom l.fn.view l.view
