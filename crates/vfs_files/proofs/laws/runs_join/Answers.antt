use Rattle.vfs_files.specs.RunLaws.{run-join}
use Rattle.vfs_files.proofs.laws.runs_join.Goals as goal

pub returns : goal.returns
returns g c = run-join g.F.FileSystem.allows g.F.DirIter.DirectoryIterator.gives
