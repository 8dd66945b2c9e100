use Rattle.std.proofs.Common.{◌≡◌, map, take}
use Rattle.vfs_run.specs.Session.{room_for}
use Rattle.vfs_run.proofs.session.writers_for.Given as goal

abbrev pub invariant-loop-request : goal.invariant-loop-request
invariant-loop-request l = l.writers.items ≡ map room_for (take l.request-index l.requests)
