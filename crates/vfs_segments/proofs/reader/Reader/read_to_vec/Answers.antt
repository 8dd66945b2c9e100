use Rattle.std.proofs.Common.{arith, ◌+◌, ◌≤◌}
use Rattle.vfs_segments.proofs.Places.{length-left, moved_on}
use Rattle.vfs_segments.proofs.reader.Reader.read_to_vec.Goals as goal

pub returns-clause-moved : goal.returns-clause-moved
returns-clause-moved c =
    let r = c.self.inside in
    let n = c.args.n in
    let left = length-left r c.self.invariant c.args.self.now c.self.view_is in
    let h : r.at + n ≤ r.end = omega (arith, left, c.self.invariant.before_end) in
    moved_on r c.self.invariant c.args.self.now c.self.view_is n h
