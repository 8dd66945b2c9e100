use Rattle.std.proofs.Common.{arith, ap, sym, ◌≡◌, ◌∙◌, ◌+◌, ◌-◌, ◌<◌, ◌≤◌, ⊎_elim, length, take, drop, map, [], ◌∷◌, ◌++◌, ℕ, List}
use Rattle.std.proofs.lemmas.Grind.{common_steps}
use Rattle.std.proofs.lemmas.Bool.{cases_lt}
use Rattle.std.proofs.lemmas.List.{length-map, take-map}
use Rattle.std.specs.List.{concat}
use Rattle.std.specs.declared.vec.Vec.{Vec}
use Rattle.std.specs.declared.alloc.Global.{Global}
use Rattle.vfs_segments.specs.Lengths.{lengths_before}
use Rattle.vfs_segments.specs.Segments.{contents, lengths_of}
use Rattle.vfs_segments.specs.Totals.{totals_of}
use Rattle.vfs_segments.proofs.Cuts.{IsListed}
use Rattle.vfs_segments.proofs.TotalCuts.{totals_before_between, totals_before_inside, totals_after}
use Rattle.vfs_segments.proofs.Flat.{held_flat}
use Rattle.vfs_segments.proofs.Totals.{length-totals_of}
use Rattle.vfs_segments.proofs.cut.Segments+Vec+Vec+u8.split_off.Goals as goal

pub totals_past-requires : goal.totals_past-requires
totals_past-requires c =
    let w = c.self.inside in
    omega (arith, c.place-first.ensures.within, ap length c.deref.ensures.value, ap length c.self.invariant, length-totals_of (contents w.list.items), ap length c.self.view_is)

pub end_totals-requires : goal.end_totals-requires
end_totals-requires c = λ some.
    let w = c.self.inside in
    let p = rw (sym c.self.view_is) at c.place-first.ensures in
    let listed = IsListed w.list.items c.place-first.result.0 c.place-first.result.1 some p.inside in
    omega (arith, listed, ap length c.self.invariant, length-totals_of (contents w.list.items), length-map w.list.items (λ (v : Vec ℕ Global). v.items))

-- the place, seen from the list
pub cut_off-requires-clause-place : goal.cut_off-requires-clause-place
cut_off-requires-clause-place c =
    let xs = c.self.inside.list.items in
    let first = c.place-first.result.0 in
    let inside = c.place-first.result.1 in
    let p = rw (sym c.self.view_is) at c.place-first.ensures in
    sym (ap (λ (l : List (List ℕ)). length (concat l) + inside) (take-map (λ (v : Vec ℕ Global). v.items) first xs)) ∙ p.place

pub invariant_of-result : goal.invariant_of-result
invariant_of-result c =
    let xs = c.self.inside.list.items in
    let at = c.args.at in
    let first = c.place-first.result.0 in
    let inside = c.place-first.result.1 in
    let p = rw (sym c.self.view_is) at c.place-first.ensures in
    let place : length (held_flat (take first xs)) + inside ≡ at =
    sym (ap (λ (l : List (List ℕ)). length (concat l) + inside) (take-map (λ (v : Vec ℕ Global). v.items) first xs)) ∙ p.place in
    let before = c.deref.ensures.value ∙ c.self.invariant in
    c.in_ok-totals.ensures ∙ ap (λ l. map (λ t. t - at) (drop first l)) before
    ∙ totals_after xs first inside at place (λ (h : first < length xs). p.before_end (omega (arith, h, length-map xs (λ (v : Vec ℕ Global). v.items))))
    ∙ ap totals_of (sym c.in_ok-list.ensures.back_lengths)

pub invariant_of-self-2 : goal.invariant_of-self-2
invariant_of-self-2 c =
    let w = c.self.inside in
    let xs = w.list.items in
    let at = c.args.at in
    let first = c.place-first.result.0 in
    let inside = c.place-first.result.1 in
    let p = rw (sym c.self.view_is) at c.place-first.ensures in
    let place : length (held_flat (take first xs)) + inside ≡ at =
    sym (ap (λ (l : List (List ℕ)). length (concat l) + inside) (take-map (λ (v : Vec ℕ Global). v.items) first xs)) ∙ p.place in
    let begun = ap (take first) c.self.invariant in
    let front : c.end_totals.new.totals.items ≡ totals_of (lengths_before at (lengths_of (contents xs))) =
    ⊎_elim
    (λ (some : 0 < inside).
    let listed = IsListed xs first inside some p.inside in
    c.end_totals.ensures.cut some ∙ ap (λ l. l ++ at ∷ []) begun
    ∙ totals_before_inside xs first inside at listed place some (p.before_end (omega (arith, listed, length-map xs (λ (v : Vec ℕ Global). v.items)))))
    (λ (none : inside ≤ 0).
    c.end_totals.ensures.between (omega arith) ∙ begun
    ∙ totals_before_between xs first at (omega (arith, place)) (λ (h : first < length xs). omega (arith, p.before_end (omega (arith, h, length-map xs (λ (v : Vec ℕ Global). v.items))))))
    (cases_lt 0 inside) in
    front ∙ ap totals_of (sym c.in_ok-list.ensures.front_lengths)

pub cut_off-requires-clause-within : goal.cut_off-requires-clause-within
cut_off-requires-clause-within c = grind (arith, common_steps)

pub cut_off-requires-clause-before_end : goal.cut_off-requires-clause-before_end
cut_off-requires-clause-before_end c = grind (arith, common_steps)
