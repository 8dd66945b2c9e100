use Rattle.std.proofs.Common.{arith, rules}
use Rattle.std.proofs.lemmas.Grind.{common_steps}
use Rattle.vfs_segments.proofs.writer.Writer.new.Goals as goal

pub invariant_of-result : goal.invariant_of-result
invariant_of-result c = search rules

pub returns-in_err-segments-clause-few : goal.returns-in_err-segments-clause-few
returns-in_err-segments-clause-few c = grind (arith, common_steps)
