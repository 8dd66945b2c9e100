use Rattle.laws_history.proofs.Calling.{two}
use Rattle.laws_history.proofs.uses.look_up_then_forget.Goals as goal

pub returns : goal.returns
returns g c =
    two g.F.FileSystem.allows g.F.DirIter.DirectoryIterator.gives
    c.history_goes_on.ensures.handled c.history_keeps_books.ensures c.history_has_turns.ensures.run
    _ _ _ _ _ _ _ _ _ _ _
    c.handle_message-found.ensures.step c.handle_message-forgotten.ensures.step
    c.requires.lookup c.requires.forget
