use Rattle.std.proofs.Common.{◌≡◌, ◌<◌, ◌+◌, ◌-◌, ◌++◌, ℕ, length, take, drop, min, sym, ap, ◌∙◌, arith, length-append, length-take, length-drop, take_at}
use Rattle.std.proofs.lemmas.List.{take-append-le}
use Rattle.std.specs.List.{concat}
use Rattle.vfs_segments.specs.ViewLaws.{concat-take_more}
use Rattle.vfs_files.proofs.Pieces.{room_filled}
use borrow.Rule.Slice.PartMut.{put_mid, post_of, same_len_mid}
use Rattle.vfs_files.proofs.bytes_mut.take_pieces.Goals as goal

pub loop-i-preserved : goal.loop-i-preserved
loop-i-preserved c =
    let view = c.args.view.now in
    let i = c.loop-i.i in
    let done = c.loop-i.done in
    let room = c.loop-i.room in
    let piece = c.get.result.now in
    let w = c.fill_front-done.new.piece in
    let n = c.fill_front-done.result in
    let k : ℕ = length room - done in
    let before = concat (take i view) in
    let bound : i < length view = omega (arith, c.loop-i-test.true, c.count-i-end.ensures.count) in
    let so_far = c.loop-i.invariant.done in
    let mid : length (take k (drop done room)) ≡ k =
    omega (arith, length-take k (drop done room), length-drop done room) in
    let size : length w ≡ k = c.fill_front-done.auto.piece ∙ mid in
    let fits : n ≡ min (length room - done) (length piece) =
    omega (arith, c.fill_front-done.ensures.count, mid) in
    let copied = c.fill_front-done.ensures.copied in
    let front : take n w ≡ take n piece =
    ap (take n) copied
    ∙ take_at (take n piece) (drop n (take k (drop done room))) n (omega (
      arith,
      fits,
      length-take n piece,
    )) in
    let filled : take n (w ++ post_of done k room) ≡ take n piece =
    take-append-le n w (post_of done k room) (omega (arith, size, fits)) ∙ front in
    let grown : concat (take (i + 1) view) ≡ before ++ piece =
    concat-take_more view i bound ∙ ap (λ l. before ++ l) (sym c.get.ensures) in
    let same : length (put_mid done k room w) ≡ length room =
    same_len_mid done k room w c.fill_front-done.auto.piece in
    record {
      done = rw (grown, same) (omega (arith, so_far, fits, length-append before piece));
      filled =
          rw grown
          (room_filled room (w ++ post_of done k room) before piece done n so_far fits
          c.loop-i.invariant.filled filled);
    }
