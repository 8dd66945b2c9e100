use Rattle.std.proofs.Common.{arith, ap, get_or, drop, take, [], ◌∙◌, ◌≡◌, ◌+◌, ◌-◌, ◌<◌, length}
use Rattle.std.specs.List.{concat}
use Rattle.vfs_segments.proofs.Lists.{turn}
use Rattle.vfs_segments.proofs.Flat.{concat-drop_more}
use Rattle.vfs_segments.proofs.gather.Segments+ref+slice+ref+slice+u8.gather.Goals as goal

pub loop-i-preserved : goal.loop-i-preserved
loop-i-preserved c =
    let i = c.loop-i.i in
    let xs = c.args.self.now in
    let h : i < length xs = omega (arith, c.count-i-end.ensures) in
    let s = get_or xs i [] in
    let more = concat-drop_more xs i h in
    let v = c.loop-i.invariant in
    let cut : c.min-from.result + c.min-n.result - c.min-from.result ≡ c.min-n.result = omega arith in
    let here = c.segment-segment.ensures in
    let t = turn c.loop-i.buf c.put_piece.new.buf s (concat (drop (i + 1) xs)) _ _ c.loop-i.skip c.loop-i.done c.min-from.result c.min-n.result (rw here at c.min-from.ensures) (rw here at c.min-n.ensures) (ap (λ l. take (c.min-from.result + c.min-n.result - c.min-from.result) (drop c.min-from.result l)) here ∙ ap (λ k. take k (drop c.min-from.result s)) cut) v.within (rw more at v.fits) (rw more at v.bytes) c.put_piece.ensures in
    record { within = t.same_within; fits = t.still_fits; bytes = t.joined }
