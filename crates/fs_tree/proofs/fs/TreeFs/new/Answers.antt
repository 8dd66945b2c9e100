use Rattle.std.proofs.Common.{rules}
use Rattle.fs_tree.proofs.fs.TreeFs.new.Goals as goal

pub returns : goal.returns
returns c = search rules
