use Rattle.laws_history.proofs.Going.{keeps_books}
use Rattle.laws_history.proofs.laws.history_keeps_books.Goals as goal

pub returns : goal.returns
returns g c = keeps_books g.F.FileSystem.allows g.F.DirIter.DirectoryIterator.gives c.turns_keep_books.ensures
