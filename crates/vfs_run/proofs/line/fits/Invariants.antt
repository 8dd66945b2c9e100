use Rattle.std.proofs.Common.{◌≡◌, ◌+◌, take}
use Rattle.std.specs.Prelude.{sum}
use Rattle.vfs_run.proofs.line.fits.Given as goal

abbrev pub invariant-loop-room : goal.invariant-loop-room
invariant-loop-room l = sum (take l.room-index l.rooms) + l.left ≡ 2097152
