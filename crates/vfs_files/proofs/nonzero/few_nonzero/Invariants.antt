use Rattle.vfs_files.specs.Nonzero.{AreNonzero}
use Rattle.vfs_files.proofs.nonzero.few_nonzero.Given as goal

abbrev pub invariant-each : goal.invariant-each
invariant-each l = AreNonzero 0 l.byte-index l.bytes
