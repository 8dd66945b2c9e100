use Rattle.laws_history.proofs.Calling.{taken_over}
use Rattle.laws_history.proofs.uses.take_over_between.Goals as goal

pub returns : goal.returns
returns g c =
    taken_over g.F.FileSystem.allows g.F.DirIter.DirectoryIterator.gives
    c.history_goes_on.ensures.handled c.history_goes_on.ensures.changed
    c.history_keeps_books.ensures
    _ _ _ _ _ _ _ _ _ _ _ _
    c.handle_message-first.ensures.step c.deserialize_and_apply.ensures.2.1
    c.deserialize_and_apply.ensures.2.2
    c.handle_message-last.ensures.step
