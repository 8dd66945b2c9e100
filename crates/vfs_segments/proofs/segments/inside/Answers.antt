use Rattle.std.proofs.Common.{arith}
use Rattle.vfs_segments.proofs.Totals.{listed_by}
use Rattle.vfs_segments.proofs.segments.inside.Goals as goal

pub len_of-requires : goal.len_of-requires
len_of-requires g c =
    let p = listed_by (g.L.SegmentList.bytes c.args.list.now) c.args.totals.now c.args.i c.requires c.if-i-totals.false in
    p.listed

pub overflow_sub-begin : goal.overflow_sub-begin
overflow_sub-begin g c =
    let p = listed_by (g.L.SegmentList.bytes c.args.list.now) c.args.totals.now c.args.i c.requires c.if-i-totals.false in
    omega (arith, c.len_of.ensures, p.ends)

pub returns-then-at-end-clause-place : goal.returns-then-at-end-clause-place
returns-then-at-end-clause-place g c =
    let p = listed_by (g.L.SegmentList.bytes c.args.list.now) c.args.totals.now c.args.i c.requires c.if-i-totals.false in
    omega (arith, c.len_of.ensures, p.ends, c.if-begin-at.true)
