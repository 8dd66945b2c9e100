use Rattle.std.proofs.Common.{◌≡◌, map, take}
use Rattle.vfs_segments.specs.Segments.{segments_of, flat_bytes}
use Rattle.vfs_run.proofs.session.readers_over.Given as goal

abbrev pub invariant-loop-slices : goal.invariant-loop-slices
invariant-loop-slices l = map (λ r. r.left) l.readers.items ≡ map (λ s. flat_bytes (segments_of s.items)) (take l.slices-index l.all)
