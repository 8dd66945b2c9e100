use Rattle.std.proofs.Common.{arith}
use Rattle.std.proofs.lemmas.Grind.{common_steps}
use Rattle.vfs_segments.proofs.scatter.Segments+Vec+Vec+u8.put_spelled.Goals as goal

pub slice_bounds-buf-end-2 : goal.slice_bounds-buf-end-2
slice_bounds-buf-end-2 g c = grind (arith, common_steps)

pub slice_bounds-scatter-end : goal.slice_bounds-scatter-end
slice_bounds-scatter-end g c = grind (arith, common_steps)

pub scatter-requires-clause-fits : goal.scatter-requires-clause-fits
scatter-requires-clause-fits g c = grind (arith, common_steps)

pub returns-clause-bytes : goal.returns-clause-bytes
returns-clause-bytes g c = grind (arith, common_steps)
