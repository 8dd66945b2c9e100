use Rattle.std.proofs.Common.{rules}
use Rattle.fs_tree.proofs.calls.TreeFsFileSystem.statfs.Goals as goal

pub returns : goal.returns
returns c = search rules
