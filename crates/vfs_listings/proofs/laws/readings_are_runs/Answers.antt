use Rattle.vfs_listings.specs.ReadingLaws.{directory_runs}
use Rattle.vfs_listings.proofs.laws.readings_are_runs.Goals as goal

pub returns : goal.returns
returns g c = λ ctx plus parent handle size offset old room result new left h.
    directory_runs g.F.FileSystem.allows g.F.DirIter.DirectoryIterator.gives ctx plus parent handle
    size offset old room result new left h
