use Rattle.std.proofs.Common.{◌≡◌, map, take}
use Rattle.vfs_segments.specs.Segments.{contents}
use Rattle.vfs_run.specs.Session.{zeros}
use Rattle.vfs_run.proofs.session.empty_rooms.Given as goal

abbrev pub invariant-loop-length : goal.invariant-loop-length
invariant-loop-length l = contents l.rooms.items ≡ map zeros (take l.length-index l.lengths)
