use Rattle.std.proofs.Common.{arith, ap, ◌≡◌, ◌+◌, ◌≤◌, ◌∙◌, length, sym}
use Rattle.vfs_segments.specs.Reader.{unread_of}
use Rattle.vfs_segments.proofs.Places.{length-left, moved_on}
use Rattle.vfs_segments.proofs.reader.Reader.too_few.Goals as goal

pub returns-clause-moved : goal.returns-clause-moved
returns-clause-moved c =
    let r = c.self.inside in
    let n = length c.args.self.now.left in
    let left = length-left r c.self.invariant c.args.self.now c.self.view_is in
    let end : r.at + n ≡ r.end = omega (arith, left, c.self.invariant.before_end) in
    let h : r.at + n ≤ r.end = omega (arith, end) in
    ap (λ at. unread_of (record r { at = at })) (sym end)
    ∙ moved_on r c.self.invariant c.args.self.now c.self.view_is n h
