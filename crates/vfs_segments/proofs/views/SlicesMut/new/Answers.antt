use Rattle.std.proofs.Common.{arith, ap, ◌≡◌, ◌<◌, get_or, length, length-set}
use Rattle.std.proofs.lemmas.List.{length-map}
use Rattle.std.specs.declared.vec.Vec.{Vec}
use Rattle.std.specs.declared.alloc.Global.{Global}
use Rattle.vfs_segments.specs.Views.{room_of}
use Rattle.vfs_segments.proofs.ViewCuts.{taken_out}
use Rattle.vfs_segments.proofs.views.SlicesMut.new.Goals as goal

pub invariant_of-result : goal.invariant_of-result
invariant_of-result c =
    let xs = c.args.segments.items in
    let bound : c.args.span.first < length xs =
    omega (arith, c.requires.some, c.requires.within, length-map xs (λ (v : Vec _ Global). v.items)) in
    let read : c.replace-lent.result ≡ get_or xs c.args.span.first c.replace-lent.result =
    rw c.replace-lent.ensures.value c.index_mut.ensures.value in
    record {
      place_in = omega (arith, length-set xs c.args.span.first c.replace-lent.new.dest);
      span_in = rw (taken_out xs c.args.span.first c.replace-lent.new.dest c.replace-lent.result bound read) c.requires;
    }

pub returns : goal.returns
returns c =
    let xs = c.args.segments.items in
    let bound : c.args.span.first < length xs =
    omega (arith, c.requires.some, c.requires.within, length-map xs (λ (v : Vec _ Global). v.items)) in
    let read : c.replace-lent.result ≡ get_or xs c.args.span.first c.replace-lent.result =
    rw c.replace-lent.ensures.value c.index_mut.ensures.value in
    ap (room_of c.args.span) (taken_out xs c.args.span.first c.replace-lent.new.dest c.replace-lent.result bound read)
