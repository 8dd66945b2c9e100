use Rattle.std.proofs.Common.{ap, ◌∙◌, sym, length, map, ℕ}
use Rattle.std.proofs.lemmas.List.{map-set}
use Rattle.std.specs.List.{concat}
use Rattle.std.specs.declared.vec.Vec.{Vec}
use Rattle.std.specs.declared.alloc.Global.{Global}
use Rattle.vfs_segments.specs.Views.{Room, whole_of}
use Rattle.vfs_segments.specs.ViewInside.{all_of}
use Rattle.vfs_segments.specs.SpanLaws.{whole-room_of}
use Rattle.vfs_segments.proofs.views.SlicesMut.into_segments.Goals as goal

pub returns-clause-bytes : goal.returns-clause-bytes
returns-clause-bytes c =
    let v = c.self.inside in
    let items : Vec ℕ Global → _ = λ u. u.items in
    ap concat (map-set items v.segments.items v.place v.lent)
    ∙ sym (whole-room_of v.span (all_of v) c.self.invariant.span_in) ∙ ap whole_of c.self.view_is

pub returns-clause-lengths : goal.returns-clause-lengths
returns-clause-lengths c =
    let v = c.self.inside in
    let items : Vec ℕ Global → _ = λ u. u.items in
    ap (map (length {A = ℕ})) (map-set items v.segments.items v.place v.lent)
    ∙ ap (λ (r : Room). r.lengths) c.self.view_is
