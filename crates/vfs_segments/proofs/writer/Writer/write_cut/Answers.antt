use Rattle.std.proofs.Common.{arith}
use Rattle.std.proofs.lemmas.Grind.{common_steps}
use Rattle.vfs_segments.proofs.writer.Writer.write_cut.Goals as goal

pub slice_bounds-buf-end-2 : goal.slice_bounds-buf-end-2
slice_bounds-buf-end-2 g c = grind (arith, common_steps)

pub slice_bounds-put_next-end : goal.slice_bounds-put_next-end
slice_bounds-put_next-end g c = grind (arith, common_steps)

pub put_next-requires : goal.put_next-requires
put_next-requires g c = grind (arith, common_steps)

pub returns-clause-wrote : goal.returns-clause-wrote
returns-clause-wrote g c = grind (arith, common_steps)
