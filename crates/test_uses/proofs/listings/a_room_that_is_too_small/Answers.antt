use Rattle.test_uses.proofs.SmallCallers.{room_is_filled}
use Rattle.test_uses.proofs.listings.a_room_that_is_too_small.Goals as goal

pub returns : goal.returns
returns g c = λ ctx parent size it old new room left result h are short asked.
    room_is_filled g.F.FileSystem.allows g.F.DirIter.DirectoryIterator.gives ctx parent size it old new room left result h are short asked
