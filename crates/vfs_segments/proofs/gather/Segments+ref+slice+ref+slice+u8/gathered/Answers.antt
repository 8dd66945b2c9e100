use Rattle.std.proofs.Common.{arith, ◌≡◌, ◌∙◌, drop, take}
use Rattle.std.proofs.lemmas.Grind.{common_steps}
use Rattle.std.specs.List.{concat}
use Rattle.vfs_wire.specs.Fields.{value_of}
use Rattle.vfs_wire.specs.FieldLaws.{value_of-take}
use Rattle.vfs_segments.proofs.gather.Segments+ref+slice+ref+slice+u8.gathered.Goals as goal

pub returns-clause-value : goal.returns-clause-value
returns-clause-value g c =
    let t = g.T.ByteValued.table in
    let n = g.T.ByteValued.SIZE in
    let bytes = drop c.args.skip (concat (drop c.args.first c.args.self.now)) in
    let read : c.take.result ≡ value_of t (take n bytes) = grind (arith, common_steps) in
    read ∙ value_of-take t n bytes (omega (arith, g.met.T.ByteValued.size_is))

pub slice_bounds-buf-end-2 : goal.slice_bounds-buf-end-2
slice_bounds-buf-end-2 g c = grind (arith, common_steps)

pub slice_bounds-take-end : goal.slice_bounds-take-end
slice_bounds-take-end g c = grind (arith, common_steps)

pub take-requires : goal.take-requires
take-requires g c = grind (arith, common_steps)
