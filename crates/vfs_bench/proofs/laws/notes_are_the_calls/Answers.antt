use Rattle.vfs_bench.proofs.Noted.{notes-run}
use Rattle.vfs_bench.proofs.laws.notes_are_the_calls.Goals as goal

pub returns : goal.returns
returns g c = λ it old events new is_run unset.
    (notes-run g.F.FileSystem.allows g.F.DirIter.DirectoryIterator.gives it old events new is_run unset).1
