use Rattle.vfs_run.proofs.RunLemmas.{ends_after_the_limit}
use Rattle.vfs_run.proofs.uses.counts_the_line_of_the_limit.Goals as goal

pub returns : goal.returns
returns g c = ends_after_the_limit c.run.result (rw c.as_slice.ensures at c.run.ensures.ends)
