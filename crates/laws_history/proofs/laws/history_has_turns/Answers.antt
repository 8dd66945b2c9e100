use Rattle.laws_history.proofs.Going.{has_turns, has_one_run}
use Rattle.laws_history.proofs.laws.history_has_turns.Goals as goal

pub returns-clause-turns : goal.returns-clause-turns
returns-clause-turns g c = has_turns g.F.FileSystem.allows g.F.DirIter.DirectoryIterator.gives

pub returns-clause-run : goal.returns-clause-run
returns-clause-run g c = has_one_run g.F.FileSystem.allows g.F.DirIter.DirectoryIterator.gives
