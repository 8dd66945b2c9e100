-- The running totals of segments that are cut in two at a place.
use Rattle.std.proofs.Common.{◌≡◌, ℕ, ◌+◌, ◌-◌, ◌<◌, ◌≤◌, List, [], ◌∷◌, ◌++◌, zero, suc, length, take, drop, map, get_or, ap, ◌∙◌, sym, refl, arith, append-nil, length-append}
use Rattle.std.specs.declared.vec.Vec.{Vec}
use Rattle.std.specs.declared.alloc.Global.{Global}
use Rattle.vfs_segments.specs.Segments.{contents}
use Rattle.vfs_segments.specs.Lengths.{lengths_before, lengths_from}
use Rattle.vfs_segments.specs.Totals.{totals_from, totals_of}
use Rattle.vfs_segments.proofs.LengthCuts.{held_lengths, lengths_before-at, lengths_before-inside, lengths_from-at, lengths_from-inside, between_lengths_before}
use Rattle.vfs_segments.proofs.Flat.{held_flat}

-- totals that count from a later place on
shifted : (at s : ℕ) (ns : List ℕ) → at ≤ s → map (λ t. t - at) (totals_from s ns) ≡ totals_from (s - at) ns
shifted at s [] h = refl
shifted at s (n ∷ ns) h =
    let e : s + n - at ≡ s - at + n = omega arith in
    ap (λ l. (s + n - at) ∷ l) (shifted at (s + n) ns (omega arith)) ∙ ap (λ m. m ∷ totals_from m ns) e

-- those of the segments from the one on in which the place lies
past_totals : (xs : List (Vec ℕ Global)) (s i inside at : ℕ) → s + length (held_flat (take i xs)) + inside ≡ at →
    (i < length xs → inside < length (get_or (contents xs) i [])) →
    map (λ t. t - at) (drop i (totals_from s (held_lengths xs))) ≡ totals_of (lengths_from inside (held_lengths (drop i xs)))
past_totals [] s zero inside at e p = refl
past_totals [] s (suc i) inside at e p = refl
past_totals (x ∷ xs) s zero inside at e p =
    let n = length x.items in
    let h : inside < n = p (omega arith) in
    let k : s + n - at ≡ 0 + (n - inside) = omega arith in
    ap (λ l. (s + n - at) ∷ l) (shifted at (s + n) (held_lengths xs) (omega arith))
    ∙ ap (λ m. m ∷ totals_from m (held_lengths xs)) k
    ∙ sym (ap totals_of (lengths_from-inside inside n (held_lengths xs) h))
past_totals (x ∷ xs) s (suc i) inside at e p =
    past_totals xs (s + length x.items) i inside at (omega (arith, length-append x.items (held_flat (take i xs)))) (λ h. p (omega arith))

-- the totals of the rest
pub totals_after : (xs : List (Vec ℕ Global)) (i inside at : ℕ) → length (held_flat (take i xs)) + inside ≡ at →
    (i < length xs → inside < length (get_or (contents xs) i [])) →
    map (λ t. t - at) (drop i (totals_of (held_lengths xs))) ≡ totals_of (lengths_from at (held_lengths xs))
totals_after xs i inside at e p =
    past_totals xs 0 i inside at (omega arith) p ∙ ap totals_of (sym (lengths_from-at xs i inside at e))

-- the totals of the first i segments, and of what follows them
up_to : (xs : List (Vec ℕ Global)) (s i : ℕ) (tail : List ℕ) →
    totals_from s (held_lengths (take i xs) ++ tail)
    ≡ take i (totals_from s (held_lengths xs)) ++ totals_from (s + length (held_flat (take i xs))) tail
up_to xs s zero tail = let e : s + 0 ≡ s = omega arith in rw e
up_to [] s (suc i) tail = let e : s + 0 ≡ s = omega arith in rw e
up_to (x ∷ xs) s (suc i) tail =
    let n = s + length x.items in
    let e : n + length (held_flat (take i xs)) ≡ s + length (x.items ++ held_flat (take i xs)) =
    omega (arith, length-append x.items (held_flat (take i xs))) in
    ap (λ l. n ∷ l)
    (up_to xs n i tail ∙ ap (λ m. take i (totals_from n (held_lengths xs)) ++ totals_from m tail) e)

-- the totals before a place between two segments
pub totals_before_between : (xs : List (Vec ℕ Global)) (i at : ℕ) → length (held_flat (take i xs)) ≡ at →
    (i < length xs → 0 < length (get_or (contents xs) i [])) →
    take i (totals_of (held_lengths xs)) ≡ totals_of (lengths_before at (held_lengths xs))
totals_before_between xs i at e p =
    sym (append-nil (take i (totals_of (held_lengths xs)))) ∙ sym (up_to xs 0 i [])
    ∙ ap totals_of (append-nil (held_lengths (take i xs)) ∙ between_lengths_before xs i at e p)

-- of a segment that is cut as many bytes lie before the place
cut_before : (xs : List (Vec ℕ Global)) (i inside : ℕ) → i < length xs → 0 < inside →
    inside < length (get_or (contents xs) i []) → lengths_before inside (held_lengths (drop i xs)) ≡ inside ∷ []
cut_before [] i inside h some w = absurd (omega arith)
cut_before (x ∷ xs) zero inside h some w = lengths_before-inside inside (length x.items) (held_lengths xs) some w
cut_before (x ∷ xs) (suc i) inside h some w = cut_before xs i inside (omega arith) some w

-- the totals before a place inside a segment
pub totals_before_inside : (xs : List (Vec ℕ Global)) (i inside at : ℕ) → i < length xs →
    length (held_flat (take i xs)) + inside ≡ at → 0 < inside → inside < length (get_or (contents xs) i []) →
    take i (totals_of (held_lengths xs)) ++ at ∷ [] ≡ totals_of (lengths_before at (held_lengths xs))
totals_before_inside xs i inside at h e some w =
    let front = held_lengths (take i xs) in
    let k : 0 + length (held_flat (take i xs)) + inside ≡ at = omega arith in
    sym
    (ap totals_of (lengths_before-at xs i inside at e ∙ ap (λ l. front ++ l) (cut_before xs i inside h some w))
    ∙ up_to xs 0 i (inside ∷ []) ∙ ap (λ n. take i (totals_of (held_lengths xs)) ++ n ∷ []) k)
