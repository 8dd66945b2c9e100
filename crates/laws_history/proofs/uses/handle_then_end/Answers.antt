use Rattle.laws_history.proofs.Calling.{then_ended}
use Rattle.laws_history.proofs.uses.handle_then_end.Goals as goal

pub returns : goal.returns
returns g c =
    let end = c.destroy.ensures in
    then_ended g.F.FileSystem.allows g.F.DirIter.DirectoryIterator.gives
    c.history_goes_on.ensures.handled c.history_goes_on.ensures.ended c.history_keeps_books.ensures
    _ _ _ _ _ _ _ c.handle_message-outcome.ensures.step end.called end.no_options end.same_limits
