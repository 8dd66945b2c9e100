use Rattle.std.proofs.Common.{arith, rules}
use Rattle.std.proofs.lemmas.Grind.{common_steps}
use Rattle.vfs_segments.proofs.segments.Segments.new.Goals as goal

pub returns-in_err-many-clause-few : goal.returns-in_err-many-clause-few
returns-in_err-many-clause-few g c = search rules

pub new-totals-requires : goal.new-totals-requires
new-totals-requires g c = grind (arith, common_steps)

pub invariant_of-result : goal.invariant_of-result
invariant_of-result g c = grind (arith, common_steps)
