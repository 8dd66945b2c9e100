use Rattle.laws_history.proofs.Going.{join}
use Rattle.laws_history.proofs.laws.histories_join.Goals as goal

pub returns : goal.returns
returns g c = join g.F.FileSystem.allows g.F.DirIter.DirectoryIterator.gives
