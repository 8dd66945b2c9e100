use Rattle.std.proofs.Common.{refl}
use Rattle.laws_history.proofs.Calling.{exchanged}
use Rattle.laws_history.proofs.uses.exchange_between.Goals as goal

pub returns : goal.returns
returns g c =
    exchanged g.F.FileSystem.allows g.F.DirIter.DirectoryIterator.gives
    c.history_goes_on.ensures.handled c.history_goes_on.ensures.changed
    c.history_keeps_books.ensures
    _ _ _ _ _ _ _ _ _ _ _ _ _
    c.handle_message-before.ensures.step refl c.handle_message-after.ensures.step
