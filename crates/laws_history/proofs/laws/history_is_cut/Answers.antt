use Rattle.laws_history.proofs.Going.{is_cut}
use Rattle.laws_history.proofs.laws.history_is_cut.Goals as goal

pub returns : goal.returns
returns g c = is_cut g.F.FileSystem.allows g.F.DirIter.DirectoryIterator.gives
