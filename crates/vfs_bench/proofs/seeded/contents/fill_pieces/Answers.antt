use Rattle.std.proofs.Common.{◌≡◌, ◌<◌, [], length, get_or, ap, ◌∙◌, arith}
use Rattle.vfs_segments.specs.ViewLaws.{IsSameRoom-count, IsSameRoom-then_piece}
use Rattle.vfs_bench.proofs.seeded.contents.fill_pieces.Goals as goal

pub get_mut-requires : goal.get_mut-requires
get_mut-requires c =
    omega (
      arith,
      c.loop-i-test.true,
      c.count-i-end.ensures.count,
      IsSameRoom-count c.args.view.now c.loop-i.view c.loop-i.invariant,
    )

pub loop-i-preserved : goal.loop-i-preserved
loop-i-preserved c =
    let v = c.loop-i.view in
    let w = c.fill_piece-part.new.piece in
    let size : length w ≡ length (get_or v.pieces c.loop-i.i []) =
    c.fill_piece-part.auto.piece ∙ ap length c.get_mut.ensures.value in
    let bound : c.loop-i.i < length v.pieces =
    omega (
      arith,
      c.loop-i-test.true,
      c.count-i-end.ensures.count,
      IsSameRoom-count c.args.view.now v c.loop-i.invariant,
    ) in
    IsSameRoom-then_piece c.args.view.now v c.loop-i.i w c.loop-i.invariant bound size
