use Rattle.std.proofs.Common.{arith}
use Rattle.std.proofs.lemmas.Grind.{common_steps}
use Rattle.vfs_files.proofs.Texts.{text_has_no_nul}
use Rattle.vfs_files.proofs.name.CStr.before_nul.Goals as goal

pub invariant_of-result : goal.invariant_of-result
invariant_of-result c = search (arith, text_has_no_nul)

pub returns : goal.returns
returns c = grind (arith, common_steps)
