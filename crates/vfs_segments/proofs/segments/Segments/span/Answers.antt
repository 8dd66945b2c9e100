use Rattle.std.proofs.Common.{arith}
use Rattle.vfs_segments.proofs.Found.{fits_from, is_listed}
use Rattle.vfs_segments.proofs.Spans.{IsFound, span_is, place_is}
use Rattle.vfs_segments.proofs.segments.Segments.span.Goals as goal

pub walk-last-requires : goal.walk-last-requires
walk-last-requires g c =
    let p = c.place-first in
    omega (arith, c.requires.some, fits_from c.args.self.now p.result.0 p.result.1 c.args.at p.ensures.place c.args.n c.requires.fits)

pub returns-clause-span : goal.returns-clause-span
returns-clause-span g c =
    let xs = c.args.self.now in
    let p = c.place-first in
    let q = c.walk-last in
    let listed = is_listed xs p.result.0 p.result.1 c.args.at p.ensures.place (omega (arith, c.requires.some, c.requires.fits)) in
    let found : IsFound xs c.args.at c.args.n p.result.0 p.result.1 q.result.0 q.result.1 = record {
      some = c.requires.some;
      order = q.ensures.after;
      last_in = q.ensures.listed;
      begins = p.ensures.place;
      skip_in = p.ensures.before_end listed;
      ends = omega (arith, q.ensures.place, p.ensures.place, c.requires.some);
      inside_in = q.ensures.inside;
    } in
    span_is xs c.args.at c.args.n p.result.0 p.result.1 q.result.0 q.result.1 found

pub returns-clause-place : goal.returns-clause-place
returns-clause-place g c =
    let xs = c.args.self.now in
    let p = c.place-first in
    let q = c.walk-last in
    let listed = is_listed xs p.result.0 p.result.1 c.args.at p.ensures.place (omega (arith, c.requires.some, c.requires.fits)) in
    let found : IsFound xs c.args.at c.args.n p.result.0 p.result.1 q.result.0 q.result.1 = record {
      some = c.requires.some;
      order = q.ensures.after;
      last_in = q.ensures.listed;
      begins = p.ensures.place;
      skip_in = p.ensures.before_end listed;
      ends = omega (arith, q.ensures.place, p.ensures.place, c.requires.some);
      inside_in = q.ensures.inside;
    } in
    place_is xs c.args.at c.args.n p.result.0 p.result.1 q.result.0 q.result.1 found
