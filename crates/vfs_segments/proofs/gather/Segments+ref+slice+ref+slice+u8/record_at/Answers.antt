use Rattle.std.proofs.Common.{arith, ap, sym, ◌∙◌, ◌≡◌, ◌<◌, ◌+◌, ◌-◌, ◌≤◌, [], length, take, drop, get_or}
use Rattle.std.specs.List.{concat}
use Rattle.std.specs.Prelude.{sum}
use Rattle.vfs_segments.proofs.Found.{from_place, fits_from, in_segment}
use Rattle.vfs_wire.specs.Fields.{value_of}
use Rattle.vfs_wire.specs.FieldLaws.{value_of-take}
use Rattle.vfs_segments.proofs.gather.Segments+ref+slice+ref+slice+u8.record_at.Goals as goal

pub gathered-requires : goal.gathered-requires
gathered-requires g c =
    let p = c.place-first in
    fits_from c.args.self.now p.result.0 p.result.1 c.args.at p.ensures.place g.T.ByteValued.SIZE c.requires

pub returns-then-SIZE-segment-clause-value : goal.returns-then-SIZE-segment-clause-value
returns-then-SIZE-segment-clause-value g c =
    let xs = c.args.self.now in
    let p = c.place-first in
    let i = p.result.0 in
    let t = g.T.ByteValued.table in
    let n = g.T.ByteValued.SIZE in
    let s = c.segment-segment.result.now in
    let here = c.segment-segment.ensures in
    let listed : i < length xs = omega (arith, c.count.ensures) in
    let cut : p.result.1 + c.SIZE-then-SIZE-segment.result - p.result.1 ≡ n = omega (arith, c.SIZE-then-SIZE-segment.ensures) in
    let part : p.result.1 + n ≤ length (get_or xs i []) = omega (arith, ap length here, p.ensures.before_end listed, c.SIZE.ensures) in
    let whole : n ≡ sum t.widths = omega (arith, g.met.T.ByteValued.size_is) in
    c.take.ensures.read
    ∙ ap (λ k. value_of t (take k (drop p.result.1 s))) cut
    ∙ ap (λ l. value_of t (take n (drop p.result.1 l))) here
    ∙ ap (value_of t) (sym (in_segment xs i p.result.1 c.args.at p.ensures.place n listed part))
    ∙ value_of-take t n (drop c.args.at (concat xs)) (omega (arith, whole))

pub returns-clause-value : goal.returns-clause-value
returns-clause-value g c =
    let p = c.place-first in
    c.gathered.ensures.value
    ∙ ap (value_of g.T.ByteValued.table) (sym (from_place c.args.self.now p.result.0 p.result.1 c.args.at p.ensures.place))
