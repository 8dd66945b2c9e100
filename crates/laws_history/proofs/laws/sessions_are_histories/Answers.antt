use Rattle.laws_history.proofs.Sessions.{of_session}
use Rattle.laws_history.proofs.laws.sessions_are_histories.Goals as goal

pub returns : goal.returns
returns g c = of_session g.F.FileSystem.allows g.F.DirIter.DirectoryIterator.gives
