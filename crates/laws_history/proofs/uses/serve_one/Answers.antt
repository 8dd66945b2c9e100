use Rattle.laws_history.proofs.Calling.{served_one}
use Rattle.laws_history.proofs.uses.serve_one.Goals as goal

pub returns : goal.returns
returns g c =
    served_one g.F.FileSystem.allows g.F.DirIter.DirectoryIterator.gives
    c.history_goes_on.ensures.served c.history_keeps_books.ensures _ _ _ _ _ c.serve.ensures.served
