use Rattle.std.proofs.Common.{arith, ◌<◌, ◌^◌, [], ◌∷◌, length}
use Rattle.vfs_segments.proofs.Totals.{never_falls}
use Rattle.test_uses.proofs.segments.place_among_four_segments.Goals as goal

pub find_segment-segment-requires-clause-ordered : goal.find_segment-segment-requires-clause-ordered
find_segment-segment-requires-clause-ordered c =
    rw c.new-totals.ensures.totals (never_falls (8 ∷ 16 ∷ 18 ∷ 64 ∷ []))

pub returns-clause-looks : goal.returns-clause-looks
returns-clause-looks c =
    let four : length c.new-totals.result.totals < 2 ^ 3 = rw c.new-totals.ensures.totals (omega arith) in
    omega (arith, c.find_segment-segment.ensures.few 3 four)
