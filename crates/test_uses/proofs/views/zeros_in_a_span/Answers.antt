use Rattle.std.proofs.Common.{arith, ap, ◌∙◌, ◌≡◌, sym, take, length, replicate}
use Rattle.std.specs.List.{concat}
use Rattle.std.proofs.lemmas.List.{take_all}
use Rattle.vfs_segments.specs.Memory.{contents, with_bytes_at}
use Rattle.vfs_segments.specs.Views.{Room, room_of, whole_of}
use Rattle.vfs_segments.specs.ViewLaws.{IsSameRoom-total}
use Rattle.vfs_segments.specs.SpanLaws.{whole-same_room, whole-room_of}
use Rattle.test_uses.proofs.views.zeros_in_a_span.Goals as goal

pub returns-clause-bytes : goal.returns-clause-bytes
returns-clause-bytes c =
    let old = c.new-view.result in
    let new = c.read_vectored_at.new.view in
    let same = c.read_vectored_at.ensures.same_room in
    let gives = c.read_vectored_at.ensures.gives in
    let n = length (concat old.pieces) in
    let is = c.new-view.ensures in
    let total : n ≡ c.args.span.total = ap (λ (r : Room). length (concat r.pieces)) is ∙ sym c.requires.total in
    let before = ap (λ (r : Room). length r.before) is in
    let whole = ap whole_of is ∙ whole-room_of c.args.span (contents c.args.segments.items) c.requires in
    let front : take n (concat new.pieces) ≡ replicate n 0 = rw gives.0 at gives.1 in
    let zeros : concat new.pieces ≡ replicate c.args.span.total 0 =
    sym (take_all n (concat new.pieces) (omega (arith, IsSameRoom-total old new same))) ∙ front
    ∙ ap (λ m. replicate m 0) total in
    let xs = contents c.args.segments.items in
    let at = length (room_of c.args.span xs).before in
    c.into_segments.ensures.bytes ∙ whole-same_room old new same
    ∙ ap (λ k. with_bytes_at k (concat new.pieces) (whole_of old)) before
    ∙ ap (λ l. with_bytes_at at l (whole_of old)) zeros
    ∙ ap (with_bytes_at at (replicate c.args.span.total 0)) whole
