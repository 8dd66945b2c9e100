use Rattle.vfs_run.proofs.RunLemmas.{ends_at_the_late_limit}
use Rattle.vfs_run.proofs.uses.takes_no_late_limit.Goals as goal

pub returns : goal.returns
returns g c = ends_at_the_late_limit c.run.result (rw c.as_slice.ensures at c.run.ensures.ends)
