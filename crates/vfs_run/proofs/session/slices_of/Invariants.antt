use Rattle.std.proofs.Common.{◌≡◌, map, take}
use Rattle.vfs_segments.specs.Segments.{segments_of}
use Rattle.vfs_run.proofs.session.slices_of.Given as goal

abbrev pub invariant-loop-segment : goal.invariant-loop-segment
invariant-loop-segment l = segments_of l.slices.items ≡ map (λ v. v.items) (take l.segment-index l.segment-items)
