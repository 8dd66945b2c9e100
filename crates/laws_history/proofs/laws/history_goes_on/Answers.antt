use Rattle.laws_history.proofs.Going.{goes_on, goes_on_changed, goes_on_ended}
use Rattle.laws_history.proofs.Serving.{goes_on_served}
use Rattle.laws_history.proofs.laws.history_goes_on.Goals as goal

pub returns-clause-handled : goal.returns-clause-handled
returns-clause-handled g c = goes_on g.F.FileSystem.allows g.F.DirIter.DirectoryIterator.gives

pub returns-clause-served : goal.returns-clause-served
returns-clause-served g c =
    goes_on_served g.F.FileSystem.allows g.F.DirIter.DirectoryIterator.gives

pub returns-clause-changed : goal.returns-clause-changed
returns-clause-changed g c =
    goes_on_changed g.F.FileSystem.allows g.F.DirIter.DirectoryIterator.gives

pub returns-clause-ended : goal.returns-clause-ended
returns-clause-ended g c = goes_on_ended g.F.FileSystem.allows g.F.DirIter.DirectoryIterator.gives
