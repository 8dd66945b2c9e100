-- Segments that are cut in two at a place.
use Rattle.std.proofs.Common.{◌≡◌, ℕ, ◌+◌, ◌<◌, ◌≤◌, List, [], ◌∷◌, ◌++◌, length, take, drop, set, get_or, ap, ◌∙◌, sym, arith, append-nil, take-append-drop, take_at, drop_at, ⊎_elim}
use Rattle.std.proofs.lemmas.List.{take-append-le, drop-append-le, drop_more, at_drop_more, get_or-drop, get_or-map, length-map}
use Rattle.std.proofs.Math.ListN.{get_or-eq_default}
use Rattle.std.proofs.lemmas.Bool.{cases_lt}
use Rattle.std.specs.declared.vec.Vec.{Vec}
use Rattle.std.specs.declared.alloc.Global.{Global}
use Rattle.vfs_segments.specs.Segments.{contents}
use Rattle.vfs_segments.proofs.Flat.{held_flat, held_flat-append}
use Rattle.vfs_segments.proofs.Puts.{take-append_past, drop-append_past}

split : (xs : List (Vec ℕ Global)) (i : ℕ) → held_flat xs ≡ held_flat (take i xs) ++ held_flat (drop i xs)
split xs i = ap held_flat (sym (take-append-drop i xs)) ∙ held_flat-append (take i xs) (drop i xs)

-- ---- between two segments

pub between_front : (xs : List (Vec ℕ Global)) (i at : ℕ) → length (held_flat (take i xs)) ≡ at → held_flat (take i xs) ≡ take at (held_flat xs)
between_front xs i at e = sym (ap (take at) (split xs i) ∙ take_at (held_flat (take i xs)) (held_flat (drop i xs)) at e)

pub between_back : (xs : List (Vec ℕ Global)) (i at : ℕ) → length (held_flat (take i xs)) ≡ at → held_flat (drop i xs) ≡ drop at (held_flat xs)
between_back xs i at e = sym (ap (drop at) (split xs i) ∙ drop_at (held_flat (take i xs)) (held_flat (drop i xs)) at e)

-- ---- inside a segment s, which is left with its first bytes

-- a place after the start of a segment lies in one of them
pub IsListed : (xs : List (Vec ℕ Global)) (i inside : ℕ) → 0 < inside → inside ≤ length (get_or (contents xs) i []) → i < length xs
IsListed xs i inside some w =
    ⊎_elim (λ (h : i < length xs). h)
    (λ (h : length xs ≤ i). let none : get_or (contents xs) i [] ≡ [] = get_or-eq_default (contents xs) [] {n = i} (omega (arith, length-map xs (λ (v : Vec ℕ Global). v.items))) in absurd (omega (arith, w, ap length none)))
    (cases_lt i (length xs))

-- the first of the segments from the i-th on
pub first_is : (xs ys : List (Vec ℕ Global)) (i : ℕ) (s : Vec ℕ Global) → ys ≡ drop i xs → s ≡ get_or ys 0 s → get_or xs i s ≡ s
first_is xs ys i s e r =
    let k : i + 0 ≡ i = omega arith in
    sym (r ∙ ap (λ (l : List (Vec ℕ Global)). get_or l 0 s) e ∙ get_or-drop i xs 0 s ∙ ap (λ j. get_or xs j s) k)

pub length-first : (xs : List (Vec ℕ Global)) (i inside : ℕ) (s : Vec ℕ Global) → i < length xs → get_or xs i s ≡ s → inside ≤ length (get_or (contents xs) i []) → inside ≤ length s.items
length-first xs i inside s h r w = omega (arith, w, ap length (get_or-map (λ (v : Vec ℕ Global). v.items) xs i s [] h ∙ ap (λ (v : Vec ℕ Global). v.items) r))

-- the same where the place lies before its end
pub inside_first : (xs : List (Vec ℕ Global)) (i inside : ℕ) (s : Vec ℕ Global) → i < length xs →
    get_or xs i s ≡ s → inside < length (get_or (contents xs) i []) → inside < length s.items
inside_first xs i inside s h r w =
    let items : Vec ℕ Global → List ℕ = λ v. v.items in
    omega (arith, w, ap length (get_or-map items xs i s [] h ∙ ap items r))

pub inside_front : (xs : List (Vec ℕ Global)) (i inside at : ℕ) (s head : Vec ℕ Global) → i < length xs → get_or xs i s ≡ s → length (held_flat (take i xs)) + inside ≡ at → inside ≤ length s.items → head.items ≡ take inside s.items → held_flat (take i xs ++ head ∷ []) ≡ take at (held_flat xs)
inside_front xs i inside at s head h r e w p =
    let front = held_flat (take i xs) in
    let rest = held_flat (drop (i + 1) xs) in
    let more : held_flat (drop i xs) ≡ s.items ++ rest = at_drop_more held_flat xs i s h ∙ ap (λ (v : Vec ℕ Global). v.items ++ rest) r in
    let taken : take at (held_flat xs) ≡ front ++ take inside s.items =
    ap (take at) (split xs i) ∙ take-append_past front (held_flat (drop i xs)) inside at (sym e)
    ∙ ap (λ l. front ++ l) (ap (take inside) more ∙ take-append-le inside s.items rest w) in
    held_flat-append (take i xs) (head ∷ []) ∙ ap (λ l. front ++ l) (append-nil head.items ∙ p) ∙ sym taken

pub inside_back : (xs : List (Vec ℕ Global)) (i inside at : ℕ) (s tail : Vec ℕ Global) → i < length xs → get_or xs i s ≡ s → length (held_flat (take i xs)) + inside ≡ at → inside ≤ length s.items → tail.items ≡ drop inside s.items → held_flat (set (drop i xs) 0 tail) ≡ drop at (held_flat xs)
inside_back xs i inside at s tail h r e w p =
    let front = held_flat (take i xs) in
    let rest = held_flat (drop (i + 1) xs) in
    let more : held_flat (drop i xs) ≡ s.items ++ rest = at_drop_more held_flat xs i s h ∙ ap (λ (v : Vec ℕ Global). v.items ++ rest) r in
    let dropped : drop at (held_flat xs) ≡ drop inside s.items ++ rest =
    ap (drop at) (split xs i) ∙ drop-append_past front (held_flat (drop i xs)) inside at (sym e)
    ∙ ap (drop inside) more ∙ drop-append-le inside s.items rest w in
    ap (λ (l : List (Vec ℕ Global)). held_flat (set l 0 tail)) (drop_more xs i s h) ∙ ap (λ l. l ++ rest) p ∙ sym dropped
