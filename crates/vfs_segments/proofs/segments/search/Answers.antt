use Rattle.std.proofs.Common.{arith, ◌∙◌, ◌<◌, length}
use Rattle.vfs_segments.proofs.Totals.{never_falls, placed}
use Rattle.vfs_segments.proofs.segments.search.Goals as goal

pub find_segment-first-requires-clause-ordered : goal.find_segment-first-requires-clause-ordered
find_segment-first-requires-clause-ordered g c = rw (c.new.ensures.totals ∙ c.requires.totals) (never_falls _)

pub returns-then-first-count-clause-within : goal.returns-then-first-count-clause-within
returns-then-first-count-clause-within g c =
    let f = rw c.new.ensures.totals at c.find_segment-first.ensures in
    let p = placed (g.L.SegmentList.bytes c.args.list.now) c.args.totals.now c.args.at c.find_segment-first.result c.requires.totals c.requires.fits f.within f.passed f.found in
    p.within

pub returns-then-first-count-clause-place : goal.returns-then-first-count-clause-place
returns-then-first-count-clause-place g c =
    let f = rw c.new.ensures.totals at c.find_segment-first.ensures in
    let p = placed (g.L.SegmentList.bytes c.args.list.now) c.args.totals.now c.args.at c.find_segment-first.result c.requires.totals c.requires.fits f.within f.passed f.found in
    omega (arith, p.past (omega (arith, c.count.ensures)))

pub bounds-totals-first : goal.bounds-totals-first
bounds-totals-first g c =
    let f = rw c.new.ensures.totals at c.find_segment-first.ensures in
    let p = placed (g.L.SegmentList.bytes c.args.list.now) c.args.totals.now c.args.at c.find_segment-first.result c.requires.totals c.requires.fits f.within f.passed f.found in
    omega (arith, p.count, c.count.ensures)

pub overflow_sub-result : goal.overflow_sub-result
overflow_sub-result g c =
    let f = rw c.new.ensures.totals at c.find_segment-first.ensures in
    let p = placed (g.L.SegmentList.bytes c.args.list.now) c.args.totals.now c.args.at c.find_segment-first.result c.requires.totals c.requires.fits f.within f.passed f.found in
    let h : c.find_segment-first.result < length (g.L.SegmentList.bytes c.args.list.now) = omega (arith, c.count.ensures) in
    omega (arith, c.len_of.ensures, p.ends h, p.inside h)

pub overflow_sub-result-2 : goal.overflow_sub-result-2
overflow_sub-result-2 g c =
    let f = rw c.new.ensures.totals at c.find_segment-first.ensures in
    let p = placed (g.L.SegmentList.bytes c.args.list.now) c.args.totals.now c.args.at c.find_segment-first.result c.requires.totals c.requires.fits f.within f.passed f.found in
    let h : c.find_segment-first.result < length (g.L.SegmentList.bytes c.args.list.now) = omega (arith, c.count.ensures) in
    omega (arith, c.len_of.ensures, p.ends h, p.inside h)

pub returns-clause-within : goal.returns-clause-within
returns-clause-within g c =
    let f = rw c.new.ensures.totals at c.find_segment-first.ensures in
    let p = placed (g.L.SegmentList.bytes c.args.list.now) c.args.totals.now c.args.at c.find_segment-first.result c.requires.totals c.requires.fits f.within f.passed f.found in
    p.within

pub returns-clause-place : goal.returns-clause-place
returns-clause-place g c =
    let f = rw c.new.ensures.totals at c.find_segment-first.ensures in
    let p = placed (g.L.SegmentList.bytes c.args.list.now) c.args.totals.now c.args.at c.find_segment-first.result c.requires.totals c.requires.fits f.within f.passed f.found in
    let h : c.find_segment-first.result < length (g.L.SegmentList.bytes c.args.list.now) = omega (arith, c.count.ensures) in
    omega (arith, c.len_of.ensures, p.ends h, p.inside h)

pub returns-clause-inside : goal.returns-clause-inside
returns-clause-inside g c =
    let f = rw c.new.ensures.totals at c.find_segment-first.ensures in
    let p = placed (g.L.SegmentList.bytes c.args.list.now) c.args.totals.now c.args.at c.find_segment-first.result c.requires.totals c.requires.fits f.within f.passed f.found in
    let h : c.find_segment-first.result < length (g.L.SegmentList.bytes c.args.list.now) = omega (arith, c.count.ensures) in
    omega (arith, c.len_of.ensures, p.ends h, p.inside h)

pub returns-clause-before_end : goal.returns-clause-before_end
returns-clause-before_end g c =
    let f = rw c.new.ensures.totals at c.find_segment-first.ensures in
    let p = placed (g.L.SegmentList.bytes c.args.list.now) c.args.totals.now c.args.at c.find_segment-first.result c.requires.totals c.requires.fits f.within f.passed f.found in
    let h : c.find_segment-first.result < length (g.L.SegmentList.bytes c.args.list.now) = omega (arith, c.count.ensures) in
    λ k. omega (arith, c.len_of.ensures, p.ends h, p.inside h)
