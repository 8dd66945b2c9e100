use Rattle.laws_history.proofs.Calling.{three}
use Rattle.laws_history.proofs.uses.handle_three.Goals as goal

pub returns : goal.returns
returns g c =
    three g.F.FileSystem.allows g.F.DirIter.DirectoryIterator.gives
    c.history_goes_on.ensures.handled c.history_keeps_books.ensures
    _ _ _ _ _ _ _ _ _ _ _ _ _ _ _ _
    c.handle_message-first.ensures.step c.handle_message-second.ensures.step
    c.handle_message-third.ensures.step
