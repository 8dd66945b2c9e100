use Rattle.vfs_run.proofs.RunLemmas.{ends_at_the_second}
use Rattle.vfs_run.proofs.uses.names_the_first_bad_line.Goals as goal

pub returns : goal.returns
returns g c = ends_at_the_second c.run.result (rw c.as_slice.ensures at c.run.ensures.ends)
