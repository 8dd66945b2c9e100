use Rattle.std.proofs.Common.{◌*◌}
use Rattle.vfs_files.specs.Nonzero.{AreNonzero}
use Rattle.vfs_files.proofs.nonzero.many_nonzero.Given as goal

abbrev pub invariant-sixteens : goal.invariant-sixteens
invariant-sixteens l = AreNonzero 0 (16 * l.i) l.bytes
