use Rattle.std.proofs.Common.{◌≡◌, ℕ, ◌+◌, ◌<◌, List, [], length, get_or, ap, ◌∙◌, sym, refl, arith}
use Rattle.std.specs.Vec.{with_items_from}
use Rattle.vfs_segments.specs.declared.views.SlicesMut.TheInside.{Inside}
use Rattle.vfs_segments.specs.Views.{Room, with_any_piece}
use Rattle.vfs_segments.specs.ViewInside.{all_of, seen, IsView}
use Rattle.vfs_segments.proofs.ViewCuts.{IsPlaced, length-contents_with}
use Rattle.vfs_segments.proofs.ViewPieces.{length-pieces_of, placed, piece_is, view_written, view_stays}
use Rattle.vfs_segments.proofs.views.SlicesMut.get_mut.Goals as goal

-- piece i is one of the span's
in_span : (v : Inside) (r : Room) → IsView v → seen v ≡ r → (i : ℕ) → i < length r.pieces → i < v.span.count
in_span v r ok e i h = omega
    (arith, h, ap (λ (x : Room). length x.pieces) e, length-pieces_of v.span (all_of v) ok.span_in)

-- and its segment one of the list
in_list : (v : Inside) (r : Room) → IsView v → seen v ≡ r → (i : ℕ) → i < length r.pieces →
    v.span.first + i < length v.segments.items
in_list v r ok e i h = omega
    (arith, in_span v r ok e i h, ok.span_in.within, length-contents_with v.segments.items v.place v.lent)

pub overflow_add-next : goal.overflow_add-next
overflow_add-next c =
    let n = in_list c.self.inside _ c.self.invariant c.self.view_is c.args.i c.requires in
    record { fits = omega (arith, n, c.self.inside.segments.ok.0, c.self.inside.segments.small) }

pub exchange-requires-clause-next_in : goal.exchange-requires-clause-next_in
exchange-requires-clause-next_in c =
    omega (arith, in_list c.self.inside _ c.self.invariant c.self.view_is c.args.i c.requires, c.self.inside.segments.ok.0)

pub bounds-from-requires : goal.bounds-from-requires
bounds-from-requires c = in_span c.self.inside _ c.self.invariant c.self.view_is c.args.i c.requires

-- where it lies
place : (v : Inside) (r : Room) → IsView v → seen v ≡ r → (i from to len : ℕ) (s : List ℕ) → i < length r.pieces →
    s ≡ get_or (all_of v) (v.span.first + i) [] → len ≡ length s → (i ≡ 0 → from ≡ v.span.skip) → (0 < i → from ≡ 0) →
    (i + 1 ≡ v.span.count → to ≡ v.span.end) → (i + 1 < v.span.count → to ≡ len) →
    IsPlaced (all_of v) v.span.first v.span.count v.span.skip v.span.end i from to s
place v r ok e i from to len s h f g head later last inner =
    placed v.span (all_of v) ok.span_in i from to s f (omega (arith, h, ap (λ (x : Room). length x.pieces) e)) head
    later last (λ q. inner q ∙ g)

pub slice_mut-requires-clause-start_le_end : goal.slice_mut-requires-clause-start_le_end
slice_mut-requires-clause-start_le_end c =
    let b = c.bounds-from.ensures in
    let long : c.len.result ≡ length c.exchange.new.lent.items = c.len.ensures ∙ c.exchange.new.lent.ok.0 in
    (place c.self.inside c.args.self.now c.self.invariant c.self.view_is c.args.i c.bounds-from.result.0 c.bounds-from.result.1 c.len.result c.exchange.new.lent.items c.requires c.exchange.ensures.shown long b.head b.later b.last b.inner).ordered

pub slice_mut-requires-clause-in_bounds : goal.slice_mut-requires-clause-in_bounds
slice_mut-requires-clause-in_bounds c =
    let b = c.bounds-from.ensures in
    let long : c.len.result ≡ length c.exchange.new.lent.items = c.len.ensures ∙ c.exchange.new.lent.ok.0 in
    let p =
    place c.self.inside c.args.self.now c.self.invariant c.self.view_is c.args.i c.bounds-from.result.0
    c.bounds-from.result.1 c.len.result c.exchange.new.lent.items c.requires c.exchange.ensures.shown long b.head
    b.later b.last b.inner in
    omega (arith, p.ends, c.exchange.new.lent.ok.0)

pub invariant_of-self-lent : goal.invariant_of-self-lent
invariant_of-self-lent c w =
    let b = c.bounds-from.ensures in
    let long : c.len.result ≡ length c.exchange.new.lent.items = c.len.ensures ∙ c.exchange.new.lent.ok.0 in
    let p =
    place c.self.inside c.args.self.now c.self.invariant c.self.view_is c.args.i c.bounds-from.result.0
    c.bounds-from.result.1 c.len.result c.exchange.new.lent.items c.requires c.exchange.ensures.shown long b.head
    b.later b.last b.inner in
    view_stays c.self.inside
    (record { segments = c.exchange.new.segments; lent = with_items_from c.exchange.new.lent c.bounds-from.result.0 w; place = c.self.inside.span.first + c.args.i; span = c.self.inside.span; room = c.self.inside.room }) c.args.i c.bounds-from.result.0 c.bounds-from.result.1 c.exchange.new.lent w c.self.invariant p c.exchange.ensures.same refl refl refl (sym c.exchange.new.segments.ok.0 ∙ c.exchange.ensures.len ∙ c.self.inside.segments.ok.0)

pub returns : goal.returns
returns c =
    let b = c.bounds-from.ensures in
    let long : c.len.result ≡ length c.exchange.new.lent.items = c.len.ensures ∙ c.exchange.new.lent.ok.0 in
    let p =
    place c.self.inside c.args.self.now c.self.invariant c.self.view_is c.args.i c.bounds-from.result.0
    c.bounds-from.result.1 c.len.result c.exchange.new.lent.items c.requires c.exchange.ensures.shown long b.head
    b.later b.last b.inner in
    let all = all_of c.self.inside in
    let span = c.self.inside.span in (
      (
        refl,
        λ w. view_written c.self.inside (record { segments = c.exchange.new.segments; lent = with_items_from c.exchange.new.lent c.bounds-from.result.0 w; place = c.self.inside.span.first + c.args.i; span = c.self.inside.span; room = c.self.inside.room }) c.args.i c.bounds-from.result.0 c.bounds-from.result.1 c.exchange.new.lent w c.self.invariant p c.exchange.ensures.same refl refl refl
            ∙ ap (λ r. with_any_piece r c.args.i w) c.self.view_is,
      ),
      record {
        writes_back = tt;
        value = c.slice_mut.ensures.value
            ∙ sym (piece_is all span.first span.count span.skip span.end c.args.i c.bounds-from.result.0 c.bounds-from.result.1 c.exchange.new.lent.items p)
            ∙ ap (λ (r : Room). get_or r.pieces c.args.i []) c.self.view_is;
      },
    )
