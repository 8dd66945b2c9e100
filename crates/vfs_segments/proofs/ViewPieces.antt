-- A view of segments whose piece i was lent and written.
use Rattle.std.proofs.Common.{◌≡◌, ℕ, ◌+◌, ◌-◌, ◌<◌, ◌≤◌, true, false, eqb, List, [], ◌++◌, length, take, drop, set, get_or, ap, ◌∙◌, sym, arith, length-append, length-drop, length-take, length-set, get_or-set_same, take-append-drop, ⊎_elim}
use Rattle.std.proofs.lemmas.List.{set-set, take-append-le, get_or-set_other, take_all, drop-drop, set-get_or}
use Rattle.std.proofs.lemmas.Bool.{cases_eq, cases_lt}
use Rattle.std.proofs.lemmas.Bool.Decides.{eqb_tells}
use Rattle.std.specs.Vec.{with_items_from}
use Rattle.std.specs.declared.vec.Vec.{Vec}
use Rattle.std.specs.declared.alloc.Global.{Global}
use Rattle.vfs_segments.specs.declared.span.Span.{Span}
use Rattle.vfs_segments.specs.declared.views.SlicesMut.TheInside.{Inside}
use Rattle.vfs_segments.specs.Memory.{contents}
use Rattle.vfs_segments.specs.Views.{IsSpan, contents_with, cut, pieces_of, room, room_of, refilled, with_any_piece}
use Rattle.vfs_segments.specs.ViewInside.{all_of, seen, IsView}
use Rattle.vfs_segments.specs.ViewLaws.{take-append_past, lengths-set}
use Rattle.vfs_segments.proofs.ViewCuts.{length-cut, length-contents_with, length-concat-cut, IsPlaced, same_before, same_after, new_pieces, rest_last, rest_inner, room-eq}

-- a span has as many pieces as it says
pub length-pieces_of : (span : Span) (xs : List (List ℕ)) → IsSpan span xs → length (pieces_of span xs) ≡ span.count
length-pieces_of span xs ok =
    length-cut span.skip span.end (take span.count (drop span.first xs))
    ∙ omega (arith, length-take span.count (drop span.first xs), length-drop span.first xs, ok.within)

-- where piece i of a span lies
pub placed : (span : Span) (xs : List (List ℕ)) → IsSpan span xs → (i from to : ℕ) (s : List ℕ) →
    s ≡ get_or xs (span.first + i) [] → i < length (pieces_of span xs) → (i ≡ 0 → from ≡ span.skip) →
    (0 < i → from ≡ 0) → (i + 1 ≡ span.count → to ≡ span.end) → (i + 1 < span.count → to ≡ length s) →
    IsPlaced xs span.first span.count span.skip span.end i from to s
placed span xs ok i from to s e bound head later last inner =
    let h : i < span.count = omega (arith, length-pieces_of span xs ok) in
    let at_end : i + 1 ≡ span.count → to ≤ length s = λ f.
    let k : span.first + span.count - 1 ≡ span.first + i = omega arith in
    let z = last f in
    let m = rw k at ok.end_in in
    omega (arith, z, m, ap length e) in
    let ends : to ≤ length s =
    ⊎_elim (λ (p : i + 1 < span.count). let z = inner p in omega (arith, z))
    (λ (p : span.count ≤ i + 1). at_end (omega arith)) (cases_lt (i + 1) span.count) in
    let at_start : i ≡ 0 → from ≤ to = λ z.
    let f = head z in
    let k : span.first + i ≡ span.first = omega arith in
    let g = ap length (rw k at e) in
    ⊎_elim (λ (p : i + 1 < span.count). let t = inner p in omega (arith, f, t, g, ok.skip_in))
    (λ (p : span.count ≤ i + 1). let one : span.count ≡ 1 = omega (arith, z) in let t = last (omega arith) in omega (arith, f, t, ok.ordered one)) (cases_lt (i + 1) span.count) in
    record {
      inside = h;
      within = ok.within;
      segment = e;
      head = head;
      later = later;
      last = last;
      inner = inner;
      ordered = ⊎_elim (λ (p : 0 < i). let f = later p in omega (arith, f)) (λ (p : i ≤ 0). at_start (omega arith))
          (cases_lt 0 i);
      ends = ends;
    }

-- a Vec whose bytes from a place on were lent, and ended as w
pub items-from : (v : Vec ℕ Global) (from : ℕ) (w : List ℕ) → from ≤ length v.items →
    (with_items_from v from w).items ≡ take from v.items ++ refilled (drop from v.items) w
items-from v from w h =
    let d = drop from v.items in
    let b = w ++ drop (length w) d in
    let a = take from v.items in
    let front : length a ≡ from = omega (arith, length-take from v.items) in
    let back : length d ≡ length v.items - from = length-drop from v.items in
    let sizes = length-append w (drop (length w) d) in
    let rest = length-drop (length w) d in
    let both = length-append a b in
    let enough : v.len ≤ length (a ++ b) = omega (arith, v.ok.0) in
    let more : v.len ≡ length a + length d = omega (arith, v.ok.0) in
    take-append-le v.len (a ++ b) (drop (length (a ++ b)) v.items) enough ∙ take-append_past a b (length d) v.len more

-- the segments, with the one that is lent written
pub all_written : (xs : List (Vec ℕ Global)) (next from : ℕ) (lent : Vec ℕ Global) (w : List ℕ) (all : List (List ℕ)) →
    contents_with xs next lent ≡ all → from ≤ length lent.items →
    contents_with xs next (with_items_from lent from w) ≡ set all next (take from lent.items ++ refilled (drop from lent.items) w)
all_written xs next from lent w all e h =
    sym (set-set (contents xs) next lent.items (with_items_from lent from w).items)
    ∙ ap (λ l. set l next (with_items_from lent from w).items) e
    ∙ ap (λ y. set all next y) (items-from lent from w h)

-- a list keeps its length when its front is written
pub size-refilled : (old w : List ℕ) → length (refilled old w) ≡ length old
size-refilled old w = omega
    (arith, length-take (length old) (w ++ drop (length w) old), length-append w (drop (length w) old), length-drop (length w) old)

-- each list keeps its length where one is replaced by another of its length
kept_length : (xs : List (List ℕ)) (j k : ℕ) (y : List ℕ) → j < length xs → length y ≡ length (get_or xs j []) →
    length (get_or (set xs j y) k []) ≡ length (get_or xs k [])
kept_length xs j k y h e =
    ⊎_elim (λ (p : k ≡ j). rw p (ap length (get_or-set_same xs j y [] h) ∙ e))
    (λ (p : k ≡ j → ⊥). ap length (get_or-set_other xs j k y [] p)) (cases_eq k j)

-- piece i of the view
pub piece_is : (xs : List (List ℕ)) (first count skip end i from to : ℕ) (s : List ℕ) →
    IsPlaced xs first count skip end i from to s →
    get_or (cut skip end (take count (drop first xs))) i [] ≡ take (to - from) (drop from s)
piece_is xs first count skip end i from to s h =
    let p = cut skip end (take count (drop first xs)) in
    let b = drop from s in
    let long : length p ≡ count =
    length-cut skip end (take count (drop first xs))
    ∙ omega (arith, length-take count (drop first xs), length-drop first xs, h.within) in
    let same : set xs (first + i) (take from s ++ b) ≡ xs =
    ap (set xs (first + i)) (take-append-drop from s ∙ h.segment) ∙ set-get_or xs (first + i) [] in
    let turned : p ≡ set p i (take (to - from) b) =
    rw same at (new_pieces xs first count skip end i from to s b h (length-drop from s)) in
    ap (λ l. get_or l i []) turned ∙ get_or-set_same p i (take (to - from) b) [] (omega (arith, long, h.inside))

-- the view's room, once the segment was written from the piece's start on
pub room_written : (xs : List (List ℕ)) (first count skip end i from to : ℕ) (s w : List ℕ) →
    IsPlaced xs first count skip end i from to s →
    room first count skip end (set xs (first + i) (take from s ++ refilled (drop from s) w)) ≡ with_any_piece (room first count skip end xs) i w
unfolding with_any_piece
room_written xs first count skip end i from to s w h =
    let p = cut skip end (take count (drop first xs)) in
    let b = refilled (drop from s) w in
    let size : length b ≡ length s - from = size-refilled (drop from s) w ∙ length-drop from s in
    let long : length p ≡ count =
    length-cut skip end (take count (drop first xs))
    ∙ omega (arith, length-take count (drop first xs), length-drop first xs, h.within) in
    let piece = piece_is xs first count skip end i from to s h in
    let wide : length (get_or p i []) ≡ to - from =
    ap length piece ∙ omega (arith, length-take (to - from) (drop from s), length-drop from s, h.ends) in
    let bytes : length (take from s ++ b) ≡ length (get_or xs (first + i) []) =
    omega (arith, length-append (take from s) b, length-take from s, size, h.ordered, h.ends, ap length h.segment) in
    let lengths = lengths-set xs (first + i) (take from s ++ b) (omega (arith, h.inside, h.within)) bytes in
    let before = same_before xs first count skip end i from to s b h size in
    let after = same_after xs first count skip end i from to s b h size in
    let pieces = new_pieces xs first count skip end i from to s b h size in
    ⊎_elim (λ (e : (eqb (i + 1) (length p) ≡ true) × (i + 1 ≡ length p)).
    let f : i + 1 ≡ count = e.1 ∙ long in
    let z = h.last f in
    let k : first + count - 1 ≡ first + i = omega arith in
    let tail : drop end (get_or xs (first + count - 1) []) ≡ drop (to - from) (drop from s) =
    rw k (ap (drop end) (sym h.segment) ∙ ap (λ n. drop n s) (omega (arith, z, h.ordered)) ∙ sym (drop-drop (to - from) from s)) in
    let all : get_or p i [] ++ drop end (get_or xs (first + count - 1) []) ≡ drop from s =
    rw (piece, tail) (take-append-drop (to - from) (drop from s)) in
    rw (e.0) (rw (all, wide) (room-eq before pieces (rest_last xs first count skip end i from to s b h size f) after lengths)))
    (λ (e : (eqb (i + 1) (length p) ≡ false) × (i + 1 ≡ length p → ⊥)).
    let n : i + 1 < count =
    ⊎_elim (λ (q : i + 1 < count). q) (λ (q : count ≤ i + 1). absurd (e.1 (omega (arith, q, long, h.inside))))
    (cases_lt (i + 1) count) in
    let z = h.inner n in
    let all : get_or p i [] ≡ drop from s =
    piece ∙ take_all (to - from) (drop from s) (omega (arith, z, length-drop from s)) in
    let thin : length (drop from s) ≡ to - from = ap length (sym all) ∙ wide in
    rw (e.0) (rw all (room-eq before (pieces ∙ ap (λ m. set p i (take m b)) (sym thin)) (rest_inner xs first count skip end i from to s b h size n) after lengths)))
    (eqb_tells (i + 1) (length p))

-- a span lies in the segments also once one of them is another of its length
pub still_span : (span : Span) (xs : List (List ℕ)) (j : ℕ) (y : List ℕ) → IsSpan span xs → j < length xs →
    length y ≡ length (get_or xs j []) → IsSpan span (set xs j y)
still_span span xs j y ok h size =
    let same : (k : ℕ) → length (get_or (set xs j y) k []) ≡ length (get_or xs k []) =
    λ k. kept_length xs j k y h size in
    record {
      some = ok.some;
      within = omega (arith, ok.within, length-set xs j y);
      skip_in = omega (arith, same span.first, ok.skip_in);
      end_in = omega (arith, same (span.first + span.count - 1), ok.end_in);
      ordered = ok.ordered;
      total = ok.total
          ∙ sym (length-concat-cut span.first span.count span.skip span.end xs (set xs j y) (lengths-set xs j y h size));
    }

-- the view whose segment for piece i was lent and left with the bytes w from the piece's start on
module _ (v n : Inside) (i from to : ℕ) (lent : Vec ℕ Global) (w : List ℕ) (ok : IsView v) (p : IsPlaced (all_of v) v.span.first v.span.count v.span.skip v.span.end i from to lent.items) (same : contents_with n.segments.items (v.span.first + i) lent ≡ all_of v) (now : n.lent ≡ with_items_from lent from w) (place : n.place ≡ v.span.first + i) (span : n.span ≡ v.span) where
  -- the segments then
  all_now : all_of n ≡ set (all_of v) (v.span.first + i) (take from lent.items ++ refilled (drop from lent.items) w)
  all_now = rw (place, now)
      (all_written n.segments.items (v.span.first + i) from lent w (all_of v) same (omega (arith, p.ordered, p.ends)))

  -- the written one keeps its length
  size : length (take from lent.items ++ refilled (drop from lent.items) w) ≡
      length (get_or (all_of v) (v.span.first + i) [])
  size = omega (arith, length-append (take from lent.items) (refilled (drop from lent.items) w), length-take from lent.items, size-refilled (drop from lent.items) w, length-drop from lent.items, p.ordered, p.ends, ap length p.segment)

  -- it is a view
  pub view_stays : length n.segments.items ≡ length v.segments.items → IsView n
  view_stays segs =
      let long : length (all_of v) ≡ length v.segments.items = length-contents_with v.segments.items v.place v.lent in
      let inside : v.span.first + i < length (all_of v) = omega (arith, p.inside, p.within) in
      record {
        place_in = omega (arith, inside, long, place, segs);
        span_in = rw (span, all_now)
            (still_span v.span (all_of v) (v.span.first + i) (take from lent.items ++ refilled (drop from lent.items) w) ok.span_in inside size);
      }

  -- its room has the piece written
  pub view_written : seen n ≡ with_any_piece (seen v) i w
  view_written =
      rw span (ap (room_of v.span) all_now ∙ room_written (all_of v) v.span.first v.span.count v.span.skip v.span.end i from to lent.items w p)
