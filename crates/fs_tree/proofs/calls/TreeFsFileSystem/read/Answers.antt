use Rattle.std.proofs.Common.{[], arith, rules}
use Rattle.std.proofs.lemmas.Grind.{common_steps}
use Rattle.std.proofs.lemmas.Map.Steps.{set_value_same}
use Rattle.fs_tree.proofs.calls.TreeFsFileSystem.read.Goals as goal
use Rattle.fs_tree.proofs.calls.TreeFsFileSystem.read.Goals.{then-size-gt0, else-size-gt0}

pub returns-in_err-check_contents : goal.returns-in_err-check_contents
returns-in_err-check_contents g c = ([], search rules, search rules, search (rules, set_value_same))

pub returns : goal.returns
returns g c = elim c.if-size-gt0.branch [
  | then-size-gt0 w ↦ grind (arith, common_steps)
  | else-size-gt0 w ↦ grind (arith, common_steps, set_value_same)
]
