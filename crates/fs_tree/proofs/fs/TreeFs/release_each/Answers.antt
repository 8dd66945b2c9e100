use Rattle.std.proofs.Common.{arith}
use Rattle.fs_tree.proofs.Releasing.{held_more, all_idle}
use Rattle.fs_tree.proofs.fs.TreeFs.release_each.Goals as goal

pub loop-i-preserved : goal.loop-i-preserved
loop-i-preserved c =
    let held = c.in-Some.ensures in
    let more = held_more c.args.self.now c.loop-i.self held.ordered c.take_back.new.self c.loop-i.done
    c.in-Some.number c.in-Some.lookups c.loop-i.invariant.left held.held c.take_back.ensures in
    let fewer = more.1 in
    record { left = more.0; few = omega (arith, fewer, c.loop-i.invariant.few) }

pub returns-in_default : goal.returns-in_default
returns-in_default c =
    let none = c.in_default.ensures in
    all_idle c.args.self.now c.loop-i.self none.ordered c.loop-i.done c.loop-i.invariant.left none.held
