use Rattle.std.proofs.Common.{ap, ◌∙◌, ◌≡◌, sym, refl, length, ℕ, Result, Ok, Err}
use Rattle.std.specs.List.{concat}
use Rattle.std.specs.declared.vec.Vec.{Vec}
use Rattle.std.specs.declared.alloc.Global.{Global}
use Rattle.vfs_segments.specs.Segments.{contents, with_bytes_at}
use Rattle.vfs_segments.specs.Totals.{totals_of}
use Rattle.vfs_segments.specs.Transfer.{moved_bytes}
use Rattle.vfs_segments.specs.Views.{Room, moved, room_of, whole_of}
use Rattle.vfs_segments.specs.ViewLaws.{IsSameRoom-total}
use Rattle.vfs_segments.specs.SpanLaws.{whole-room_of, whole-same_room}
use Rattle.vfs_segments.proofs.transfer.Segments+Vec+Vec+u8.read_into.Goals as goal

-- what was moved, by the bytes of the room
moved_is : {E : Type 0} (r : Result ℕ E) (v : Room) → moved r v ≡ moved_bytes r (concat v.pieces)
moved_is (Ok n) v = refl
moved_is (Err e) v = refl

pub invariant_of-self : goal.invariant_of-self
invariant_of-self g c =
    let is =
    c.new-view.ensures
    ∙ ap (λ (v : Vec (Vec ℕ Global) Global). room_of c.span-span.result (contents v.items)) c.replace-list.ensures.value in
    let lengths = c.into_segments.ensures.lengths ∙ c.read_vectored_at-answer.ensures.same_room.lengths
    ∙ ap (λ (r : Room). r.lengths) is in
    c.self.invariant ∙ ap totals_of (sym lengths)

pub returns-clause-bound : goal.returns-clause-bound
returns-clause-bound g c =
    let found = c.span-span.ensures in
    let is =
    c.new-view.ensures
    ∙ ap (λ (v : Vec (Vec ℕ Global) Global). room_of c.span-span.result (contents v.items)) c.replace-list.ensures.value
    ∙ ap (room_of c.span-span.result) c.self.view_is in
    let size = ap (λ (r : Room). length (concat r.pieces)) is ∙ sym found.span.total ∙ found.total in
    rw size at c.read_vectored_at-answer.ensures.bound

pub returns-clause-lengths : goal.returns-clause-lengths
returns-clause-lengths g c =
    let is =
    c.new-view.ensures
    ∙ ap (λ (v : Vec (Vec ℕ Global) Global). room_of c.span-span.result (contents v.items)) c.replace-list.ensures.value
    ∙ ap (room_of c.span-span.result) c.self.view_is in
    c.into_segments.ensures.lengths ∙ c.read_vectored_at-answer.ensures.same_room.lengths
    ∙ ap (λ (r : Room). r.lengths) is

pub returns-clause-moved : goal.returns-clause-moved
returns-clause-moved g c =
    let span = c.span-span.result in
    let xs = c.args.self.now in
    let found = c.span-span.ensures in
    let old = c.new-view.result in
    let new = c.read_vectored_at-answer.new.view in
    let same = c.read_vectored_at-answer.ensures.same_room in
    let is =
    c.new-view.ensures
    ∙ ap (λ (v : Vec (Vec ℕ Global) Global). room_of span (contents v.items)) c.replace-list.ensures.value
    ∙ ap (room_of span) c.self.view_is in
    let size : length (concat old.pieces) ≡ c.args.n =
    ap (λ (r : Room). length (concat r.pieces)) is ∙ sym found.span.total ∙ found.total in
    let before : length old.before ≡ c.args.at = ap (λ (r : Room). length r.before) is ∙ found.place in
    let whole : whole_of old ≡ concat xs = ap whole_of is ∙ whole-room_of span xs found.span in (
      concat new.pieces,
      IsSameRoom-total old new same ∙ size,
      c.into_segments.ensures.bytes ∙ whole-same_room old new same
          ∙ ap (λ k. with_bytes_at k (concat new.pieces) (whole_of old)) before
          ∙ ap (with_bytes_at c.args.at (concat new.pieces)) whole,
      rw (size, moved_is c.read_vectored_at-answer.result new) at c.read_vectored_at-answer.ensures.gives,
    )
