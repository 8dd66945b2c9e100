use Rattle.std.proofs.Common.{rules}
use Rattle.fs_tree.proofs.fs.TreeFs.take_back.Goals as goal

pub returns-then-left-eq0 : goal.returns-then-left-eq0
returns-then-left-eq0 c = search rules

pub returns : goal.returns
returns c = search rules
