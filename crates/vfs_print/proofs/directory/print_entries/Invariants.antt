use Rattle.std.proofs.Common.{length}
use Rattle.vfs_print.proofs.directory.print_entries.Given as goal

abbrev pub decreases-loop-left : goal.decreases-loop-left
decreases-loop-left g l = length l.left
