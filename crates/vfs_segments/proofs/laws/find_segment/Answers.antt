use Rattle.std.proofs.Common.{◌+◌, ◌-◌, ◌/◌, ◌≤◌, slice_index, arith, ◌∙◌}
use Rattle.vfs_segments.proofs.Halves.{halved}
use Rattle.vfs_segments.proofs.laws.find_segment.Goals as goal

pub look-requires-clause-countable : goal.look-requires-clause-countable
look-requires-clause-countable g c = omega (arith, (c.loop-low.invariant.few 64 (omega arith)).0)

pub loop-low-preserved-then-look-at : goal.loop-low-preserved-then-look-at
loop-low-preserved-then-look-at g c =
    let v = c.loop-low.invariant in
    let low = c.loop-low.low in
    let high = c.loop-low.high in
    let size : low + (high - low) / 2 - low + (low + (high - low) / 2 - low) ≤ high - low = omega arith in
    record {
      same = c.look.ensures.same ∙ v.same;
      ordered = omega arith;
      within = omega arith;
      passed = v.passed;
      above = λ _. rw v.same at (rw c.look.ensures.value at c.if-look-at.true);
      few = λ k h. rw c.look.ensures.counted (halved k _ (high - low) _ (omega arith) (v.few k h).0 (v.few k h).1 size);
    }

pub loop-low-preserved : goal.loop-low-preserved
loop-low-preserved g c =
    let v = c.loop-low.invariant in
    let low = c.loop-low.low in
    let high = c.loop-low.high in
    let middle = low + (high - low) / 2 in
    let size : high - (middle + 1) + (high - (middle + 1)) ≤ high - low = omega arith in
    let here : slice_index (g.T.Totals.totals c.args.totals.now) middle ≤ c.args.at = rw v.same at (rw c.look.ensures.value at c.if-look-at.false) in
    record {
      same = c.look.ensures.same ∙ v.same;
      ordered = omega arith;
      within = v.within;
      passed = λ i h. omega (arith, here, c.requires.ordered.ordered i middle (omega arith) (omega arith));
      above = v.above;
      few = λ k h. rw c.look.ensures.counted (halved k _ (high - low) _ (omega arith) (v.few k h).0 (v.few k h).1 size);
    }
