use Rattle.std.proofs.Common.{arith, ◌≡◌, ◌+◌, ◌≤◌, length}
use Rattle.vfs_segments.proofs.Places.{length-left, moved_on}
use Rattle.vfs_segments.proofs.reader.Reader.take_next.Goals as goal

pub returns-clause-moved : goal.returns-clause-moved
returns-clause-moved c =
    let r = c.self.inside in
    let n = length c.args.buf.now in
    let same : length c.copy_from.new.buf ≡ n = c.copy_from.auto.buf in
    let left = length-left r c.self.invariant c.args.self.now c.self.view_is in
    let h : r.at + n ≤ r.end = omega (arith, c.requires, left, c.self.invariant.before_end) in
    rw same (moved_on r c.self.invariant c.args.self.now c.self.view_is n h)
