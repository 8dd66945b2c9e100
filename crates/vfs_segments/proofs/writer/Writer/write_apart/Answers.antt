use Rattle.std.proofs.Common.{arith}
use Rattle.std.proofs.lemmas.Grind.{common_steps}
use Rattle.vfs_segments.proofs.writer.Writer.write_apart.Goals as goal

pub slice_bounds-buf-end-2 : goal.slice_bounds-buf-end-2
slice_bounds-buf-end-2 g c = grind (arith, common_steps)

pub slice_bounds-write_rows-end : goal.slice_bounds-write_rows-end
slice_bounds-write_rows-end g c = grind (arith, common_steps)

pub returns-clause-whole : goal.returns-clause-whole
returns-clause-whole g c = grind (arith, common_steps)

pub returns-clause-cut : goal.returns-clause-cut
returns-clause-cut g c = grind (arith, common_steps)

pub returns-clause-wrote : goal.returns-clause-wrote
returns-clause-wrote g c = grind (arith, common_steps)
