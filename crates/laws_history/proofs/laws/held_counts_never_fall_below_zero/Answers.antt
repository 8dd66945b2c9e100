use Rattle.laws_history.proofs.Going.{held_counts_stay}
use Rattle.laws_history.proofs.laws.held_counts_never_fall_below_zero.Goals as goal

pub returns : goal.returns
returns g c = held_counts_stay g.F.FileSystem.allows g.F.DirIter.DirectoryIterator.gives
