use Rattle.laws_history.proofs.Calling.{served_twice}
use Rattle.laws_history.proofs.uses.serve_two.Goals as goal

pub returns : goal.returns
returns g c =
    served_twice g.F.FileSystem.allows g.F.DirIter.DirectoryIterator.gives
    c.history_goes_on.ensures.served c.history_keeps_books.ensures _ _ _ _ _ _
    c.in_ok-first.first c.in_ok-second.second
    c.in_ok-first.ensures.served c.in_ok-second.ensures.served
