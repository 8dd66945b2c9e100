use Rattle.std.proofs.Common.{arith, ap, sym, ◌∙◌, ◌≡◌, ◌+◌, ◌-◌, ◌<◌, ◌≤◌, [], length, take, drop, get_or}
use Rattle.std.proofs.lemmas.Bool.Decides.{nat_tests}
use Rattle.vfs_segments.proofs.Found.{from_place, fits_from, in_segment, is_listed}
use Rattle.vfs_segments.proofs.gather.Segments+ref+slice+ref+slice+u8.copy_from.Goals as goal

pub segment-segment-requires : goal.segment-segment-requires
segment-segment-requires c =
    let p = c.place-first in
    let some : 0 < length c.args.buf.now = grind (arith, nat_tests) in
    is_listed c.args.self.now p.result.0 p.result.1 c.args.at p.ensures.place (omega (arith, some, c.requires))

pub gather-requires : goal.gather-requires
gather-requires c =
    let p = c.place-first in
    fits_from c.args.self.now p.result.0 p.result.1 c.args.at p.ensures.place (length c.args.buf.now) c.requires

pub returns-then-buf-segment : goal.returns-then-buf-segment
returns-then-buf-segment c =
    let xs = c.args.self.now in
    let p = c.place-first in
    let i = p.result.0 in
    let n = length c.args.buf.now in
    let s = c.segment-segment.result.now in
    let some : 0 < n = grind (arith, nat_tests) in
    let here = c.segment-segment.ensures in
    let listed = is_listed xs i p.result.1 c.args.at p.ensures.place (omega (arith, some, c.requires)) in
    let cut : p.result.1 + n - p.result.1 ≡ n = omega arith in
    let part : p.result.1 + n ≤ length (get_or xs i []) = omega (arith, ap length here, p.ensures.before_end listed) in
    c.copy_from_slice.ensures.after
    ∙ ap (λ k. take k (drop p.result.1 s)) cut
    ∙ ap (λ l. take n (drop p.result.1 l)) here
    ∙ sym (in_segment xs i p.result.1 c.args.at p.ensures.place n listed part)

pub returns-else-buf-segment : goal.returns-else-buf-segment
returns-else-buf-segment c =
    let p = c.place-first in
    c.gather.ensures
    ∙ ap (take (length c.args.buf.now)) (sym (from_place c.args.self.now p.result.0 p.result.1 c.args.at p.ensures.place))
