use Rattle.std.proofs.Common.{rules}
use Rattle.fs_tree.proofs.fs.TreeFs.lose_name.Goals as goal

pub returns-then-left-eq0 : goal.returns-then-left-eq0
returns-then-left-eq0 c = search rules
