use Rattle.std.proofs.Common.{arith, ◌+◌, ◌≤◌, [], length, get_or}
use Rattle.vfs_segments.proofs.Puts.{held_len, held_put, held_totals}
use Rattle.vfs_segments.proofs.scatter.Segments+Vec+Vec+u8.spell_in.Goals as goal

pub spell_over-requires-clause-fits : goal.spell_over-requires-clause-fits
spell_over-requires-clause-fits g c =
    let s = c.index_mut.result.now in
    omega (arith, c.requires.fits, held_len c.self.inside.list.items c.args.self.now c.args.i s c.self.view_is c.requires.listed c.index_mut.ensures.value)

pub invariant_of-self : goal.invariant_of-self
invariant_of-self g c =
    let w = c.self.inside in
    let bs = g.S.Spelled.bytes c.args.x.now in
    let fits : c.args.at + length bs ≤ length (get_or c.args.self.now c.args.i []) = omega (arith, c.spell_over.ensures.long, c.requires.fits) in
    held_totals w.list.items c.args.self.now c.args.i c.index_mut.result.now c.self.view_is c.requires.listed c.index_mut.ensures.value
    c.args.at bs c.spell_over.new.segment c.spell_over.ensures.wrote w.totals.items fits c.self.invariant

pub returns-clause-wrote : goal.returns-clause-wrote
returns-clause-wrote g c =
    let w = c.self.inside in
    held_put w.list.items c.args.self.now c.args.i c.index_mut.result.now c.self.view_is c.requires.listed c.index_mut.ensures.value
    c.args.at (g.S.Spelled.bytes c.args.x.now) c.spell_over.new.segment c.spell_over.ensures.wrote
