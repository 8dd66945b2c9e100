use Rattle.std.proofs.Common.{arith, ap, ◌∙◌, ◌≡◌, ◌<◌, ◌+◌, ◌-◌, [], length, refl, take, drop, min, length-drop, length-take, get_or, set}
use Rattle.std.proofs.lemmas.List.{drop-drop, drop_all, length-set}
use Rattle.vfs_segments.specs.Segments.{with_bytes_at}
use Rattle.vfs_segments.specs.SegmentLaws.{length-with_bytes_at}
use Rattle.vfs_segments.proofs.Puts.{begun, ended, same_lengths, stopped, turn}
use Rattle.vfs_segments.proofs.scatter.Segments+Vec+Vec+u8.scatter.Goals as goal

pub loop-i-init : goal.loop-i-init
loop-i-init c = record {
  within = omega arith;
  count = refl;
  turn = begun c.args.self.now c.args.first c.args.skip _ c.args.bytes.now refl c.requires.fits;
  lengths = refl;
}

pub loop-i-preserved : goal.loop-i-preserved
loop-i-preserved c =
    let xs = c.loop-i.self in
    let i = c.loop-i.i in
    let s = get_or xs i [] in
    let from = c.min-from.result in
    let n = c.min-n.result in
    let done = c.loop-i.done in
    let bs = drop done c.args.bytes.now in
    let v = c.loop-i.invariant in
    let h : i < length xs = omega (arith, c.count-i-end.ensures, v.count) in
    let size = c.len_of-len.ensures in
    let e : from ≡ min c.loop-i.skip (length s) = omega (arith, size) in
    let f : n ≡ min (length s - from) (length bs) = omega (arith, size, length-drop done c.args.bytes.now) in
    let cut : done + n - done ≡ n = omega arith in
    let y = with_bytes_at from (take n bs) s in
    let wrote = c.spell_in.ensures.wrote ∙ ap (λ k. set xs i (with_bytes_at from (take k bs) s)) cut in
    let same : length y ≡ length s = length-with_bytes_at from (take n bs) s (omega (arith, length-take n bs)) in
    record {
      within = omega (arith, length-drop done c.args.bytes.now);
      count = ap length wrote ∙ length-set xs i y ∙ v.count;
      turn = rw (wrote, ← drop-drop n done c.args.bytes.now) (turn xs i c.loop-i.skip from n s bs _ h refl e f v.turn);
      lengths = rw wrote (same_lengths xs i y same h ∙ v.lengths);
    }

pub returns-after-loop-i-clause-bytes : goal.returns-after-loop-i-clause-bytes
returns-after-loop-i-clause-bytes c =
    ended c.loop-i.self c.loop-i.i c.loop-i.skip _ _ (omega (arith, c.count-i-end.ensures, c.loop-i.invariant.count)) c.loop-i.invariant.turn

pub returns-then-done-bytes-clause-bytes : goal.returns-then-done-bytes-clause-bytes
returns-then-done-bytes-clause-bytes c =
    stopped c.loop-i.self c.loop-i.i c.loop-i.skip _ _ (drop_all c.loop-i.done c.args.bytes.now (omega arith)) c.loop-i.invariant.turn
