use Rattle.std.proofs.Common.{rules}
use Rattle.fs_tree.proofs.calls.TreeFsFileSystem.rmdir.Goals as goal

pub returns : goal.returns
returns c = search rules
