use Rattle.std.proofs.Common.{arith, ◌+◌, ◌≤◌}
use Rattle.std.proofs.lemmas.Grind.{common_steps}
use Rattle.vfs_segments.proofs.Places.{cut_of, kept_of, length-left}
use Rattle.vfs_segments.proofs.reader.Reader.split_at.Goals as goal

pub overflow_add-middle : goal.overflow_add-middle
overflow_add-middle c =
    let r = c.self.inside in
    let h : r.at + c.args.n ≤ r.end = omega (arith, length-left r c.self.invariant c.args.self.now c.self.view_is, c.self.invariant.before_end) in
    omega (arith, h, c.self.invariant.small)

pub returns-clause-rest : goal.returns-clause-rest
returns-clause-rest c =
    let r = c.self.inside in
    let h : r.at + c.args.n ≤ r.end = omega (arith, length-left r c.self.invariant c.args.self.now c.self.view_is) in
    rw c.in_ok-segments.ensures (cut_of r c.self.invariant c.args.self.now c.self.view_is c.args.n h)

pub returns-clause-kept : goal.returns-clause-kept
returns-clause-kept c =
    let r = c.self.inside in
    let h : r.at + c.args.n ≤ r.end = omega (arith, length-left r c.self.invariant c.args.self.now c.self.view_is) in
    kept_of r c.self.invariant c.args.self.now c.self.view_is c.args.n h

pub invariant_of-rest : goal.invariant_of-rest
invariant_of-rest c = grind (arith, common_steps)

pub invariant_of-self : goal.invariant_of-self
invariant_of-self c = grind (arith, common_steps)
