use Rattle.std.proofs.Common.{arith, refl, ◌<◌, ◌+◌, ◌≤◌, [], length, take, get_or}
use Rattle.std.specs.List.{concat}
use Rattle.vfs_segments.proofs.Found.{one_fits}
use Rattle.vfs_segments.proofs.Puts.{put_whole}
use Rattle.vfs_segments.proofs.scatter.Segments+Vec+Vec+u8.spell_at.Goals as goal

pub spell_in-requires : goal.spell_in-requires
spell_in-requires g c =
    record {
      listed = omega (arith, c.count.ensures);
      whole = c.size_of-len.ensures;
      fits = omega (arith, c.len_of.ensures, c.requires);
    }

pub returns-then-len-len_of-clause-wrote : goal.returns-then-len-len_of-clause-wrote
returns-then-len-len_of-clause-wrote g c = λ put.
    let xs = c.args.self.now in
    let i = c.args.i in
    let bs = g.S.Spelled.bytes c.args.x.now in
    let h : i < length xs = omega (arith, c.count.ensures) in
    let fits : c.args.skip + length bs ≤ length (get_or xs i []) = omega (arith, c.spell_in.ensures.long, c.len_of.ensures, c.requires) in
    (put_whole xs c.spell_in.new.self i c.args.skip (length (concat (take i xs)) + c.args.skip) bs h refl fits c.spell_in.ensures.wrote).0

pub returns-then-len-len_of-clause-lengths : goal.returns-then-len-len_of-clause-lengths
returns-then-len-len_of-clause-lengths g c =
    let xs = c.args.self.now in
    let i = c.args.i in
    let bs = g.S.Spelled.bytes c.args.x.now in
    let h : i < length xs = omega (arith, c.count.ensures) in
    let fits : c.args.skip + length bs ≤ length (get_or xs i []) = omega (arith, c.spell_in.ensures.long, c.len_of.ensures, c.requires) in
    (put_whole xs c.spell_in.new.self i c.args.skip (length (concat (take i xs)) + c.args.skip) bs h refl fits c.spell_in.ensures.wrote).1

pub returns-then-len-len_of-clause-fits : goal.returns-then-len-len_of-clause-fits
returns-then-len-len_of-clause-fits g c = λ put.
    let xs = c.args.self.now in
    let i = c.args.i in
    let h : i < length xs = omega (arith, c.count.ensures) in
    one_fits xs i c.args.skip (length (concat (take i xs)) + c.args.skip) refl (g.S.Spelled.size c.args.x.now) h
    (omega (arith, c.size_of-len.ensures, c.len_of.ensures, c.requires))
