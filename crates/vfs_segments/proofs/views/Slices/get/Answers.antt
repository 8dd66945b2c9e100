use Rattle.std.proofs.Common.{arith, ◌≡◌, ◌+◌, ◌<◌, ℕ, List, [], ap, ◌∙◌, sym, refl, length, get_or}
use Rattle.std.proofs.lemmas.List.{length-map, get_or-map}
use Rattle.std.specs.Borrow.{Bor}
use Rattle.vfs_segments.specs.declared.span.Span.{Span}
use Rattle.vfs_segments.specs.Memory.{segments_of}
use Rattle.vfs_segments.specs.Views.{pieces_of, IsSpan}
use Rattle.vfs_segments.proofs.ViewCuts.{IsPlaced}
use Rattle.vfs_segments.proofs.ViewPieces.{length-pieces_of, placed, piece_is}
use Rattle.vfs_segments.proofs.views.Slices.get.Goals as goal

-- the segment of piece i is one of the list
in_list : (segments : List (Bor (List ℕ))) (span : Span) → IsSpan span (segments_of segments) → (i : ℕ) →
    i < length (pieces_of span (segments_of segments)) → span.first + i < length segments
in_list segments span ok i h =
    omega (arith, h, ok.within, length-pieces_of span (segments_of segments) ok, length-map segments (λ (s : Bor (List ℕ)). s.now))

pub overflow_add-segment : goal.overflow_add-segment
overflow_add-segment c =
    let h =
    in_list c.self.inside.segments.now c.self.inside.span c.self.invariant c.args.i
    (omega (arith, c.requires, ap length c.self.view_is)) in
    record { fits = omega (arith, h, c.self.told) }

pub offset_bounds-self-inside-self-inside : goal.offset_bounds-self-inside-self-inside
offset_bounds-self-inside-self-inside c =
    let h =
    in_list c.self.inside.segments.now c.self.inside.span c.self.invariant c.args.i
    (omega (arith, c.requires, ap length c.self.view_is)) in
    record { fits = omega (arith, h, c.self.told) }

pub bounds-self-inside-self-inside : goal.bounds-self-inside-self-inside
bounds-self-inside-self-inside c =
    in_list c.self.inside.segments.now c.self.inside.span c.self.invariant c.args.i
    (omega (arith, c.requires, ap length c.self.view_is))

pub bounds-from-requires : goal.bounds-from-requires
bounds-from-requires c =
    omega (arith, c.requires, ap length c.self.view_is, length-pieces_of c.self.inside.span (segments_of c.self.inside.segments.now) c.self.invariant)

-- where the piece lies
place : (segments : List (Bor (List ℕ))) (span : Span) → IsSpan span (segments_of segments) →
    (i from to len : ℕ) (d : Bor (List ℕ)) → d.now ≡ [] → i < length (pieces_of span (segments_of segments)) →
    len ≡ length (get_or segments (span.first + i) d).now → (i ≡ 0 → from ≡ span.skip) → (0 < i → from ≡ 0) →
    (i + 1 ≡ span.count → to ≡ span.end) → (i + 1 < span.count → to ≡ len) →
    IsPlaced (segments_of segments) span.first span.count span.skip span.end i from to (get_or segments (span.first + i) d).now
place segments span ok i from to len d none h g head later last inner =
    let at = in_list segments span ok i h in
    let s = get_or segments (span.first + i) d in
    let read : s.now ≡ get_or (segments_of segments) (span.first + i) [] =
    sym (get_or-map (λ (x : Bor (List ℕ)). x.now) segments (span.first + i) d [] at) in
    placed span (segments_of segments) ok i from to s.now read h head later last (λ q. inner q ∙ g)

pub part-requires-clause-ordered : goal.part-requires-clause-ordered
part-requires-clause-ordered c =
    let b = c.bounds-from.ensures in
    (place c.self.inside.segments.now c.self.inside.span c.self.invariant c.args.i c.bounds-from.result.0 c.bounds-from.result.1 _ (record { ref_ptr = (0, 0); now = [] }) refl (omega (arith, c.requires, ap length c.self.view_is)) refl b.head b.later b.last b.inner).ordered

pub part-requires-clause-ends : goal.part-requires-clause-ends
part-requires-clause-ends c =
    let b = c.bounds-from.ensures in
    (place c.self.inside.segments.now c.self.inside.span c.self.invariant c.args.i c.bounds-from.result.0 c.bounds-from.result.1 _ (record { ref_ptr = (0, 0); now = [] }) refl (omega (arith, c.requires, ap length c.self.view_is)) refl b.head b.later b.last b.inner).ends

pub returns : goal.returns
returns c =
    let b = c.bounds-from.ensures in
    let span = c.self.inside.span in
    let segments = segments_of c.self.inside.segments.now in
    let p =
    place c.self.inside.segments.now span c.self.invariant c.args.i c.bounds-from.result.0 c.bounds-from.result.1 _
    (record { ref_ptr = (0, 0); now = [] }) refl (omega (arith, c.requires, ap length c.self.view_is)) refl b.head b.later b.last b.inner in
    c.part.ensures
    ∙ sym (piece_is segments span.first span.count span.skip span.end c.args.i c.bounds-from.result.0 c.bounds-from.result.1 _ p)
    ∙ ap (λ ps. get_or ps c.args.i []) c.self.view_is
