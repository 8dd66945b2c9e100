use Rattle.std.proofs.Common.{◌≡◌, map, take}
use Rattle.vfs_segments.specs.Segments.{segments_of}
use Rattle.vfs_run.specs.Session.{segments_asked}
use Rattle.vfs_run.proofs.session.all_slices.Given as goal

abbrev pub invariant-loop-request : goal.invariant-loop-request
invariant-loop-request l = map (λ s. segments_of s.items) l.all.items ≡ map segments_asked (take l.request-index l.requests)
