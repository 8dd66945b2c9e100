-- The lengths of segments that are cut in two at a place.
use Rattle.std.proofs.Common.{◌≡◌, ℕ, ◌+◌, ◌-◌, ◌<◌, ◌≤◌, List, [], ◌∷◌, ◌++◌, zero, suc, true, false, nat_lt, ◌==◌, length, take, drop, set, get_or, ap, ◌∙◌, sym, refl, arith, ⊎_elim, append-nil, length-append}
use Rattle.std.proofs.lemmas.List.{drop_more}
use Rattle.std.proofs.lemmas.Bool.{cases_lt}
use Rattle.std.proofs.lemmas.List.Sums.{sum_by-cons}
use Rattle.std.specs.Prelude.{sum}
use Rattle.std.proofs.lemmas.Bool.Decides.{nat_tests}
use Rattle.std.specs.declared.vec.Vec.{Vec}
use Rattle.std.specs.declared.alloc.Global.{Global}
use Rattle.vfs_segments.specs.Segments.{contents, lengths_of}
use Rattle.vfs_segments.specs.Lengths.{lengths_before, lengths_from}
use Rattle.vfs_segments.proofs.Flat.{held_flat}

-- how many bytes each segment of a writer has
abbrev pub held_lengths : List (Vec ℕ Global) → List ℕ
held_lengths xs = lengths_of (contents xs)

-- ---- a place inside the first segment, and past it

-- a place inside the first segment cuts it
pub lengths_before-inside : (at n : ℕ) (ns : List ℕ) → 0 < at → at < n → lengths_before at (n ∷ ns) ≡ at ∷ []
lengths_before-inside at n ns p h =
    let below : nat_lt at n ≡ true = grind (arith, nat_tests) in
    let some : (at == 0) ≡ false = grind (arith, nat_tests) in
    rw (below, some)

-- a first segment before the place stays whole
pub lengths_before-past : (at n : ℕ) (ns : List ℕ) → n ≤ at →
    lengths_before at (n ∷ ns) ≡ n ∷ lengths_before (at - n) ns
lengths_before-past at n ns h = let past : nat_lt at n ≡ false = grind (arith, nat_tests) in rw past

-- of a segment that is cut the rest begins at the place
pub lengths_from-inside : (at n : ℕ) (ns : List ℕ) → at < n → lengths_from at (n ∷ ns) ≡ (n - at) ∷ ns
lengths_from-inside at n ns h = let below : nat_lt at n ≡ true = grind (arith, nat_tests) in rw below

-- a first segment before the place is none of the rest
pub lengths_from-past : (at n : ℕ) (ns : List ℕ) → n ≤ at → lengths_from at (n ∷ ns) ≡ lengths_from (at - n) ns
lengths_from-past at n ns h = let past : nat_lt at n ≡ false = grind (arith, nat_tests) in rw past

-- ---- how many bytes the parts have

-- the sum of a list, one element on
pub sum-cons : (n : ℕ) (ns : List ℕ) → sum (n ∷ ns) ≡ n + sum ns
sum-cons n ns = sum_by-cons (λ x. x) n ns

-- where the first segment ends before the place
sum-past : (at n : ℕ) (ns : List ℕ) → n ≤ at → sum (lengths_before (at - n) ns) ≡ at - n →
    sum (lengths_before at (n ∷ ns)) ≡ at
sum-past at n ns past rest =
    ap sum (lengths_before-past at n ns past) ∙ sum-cons n (lengths_before (at - n) ns) ∙ omega (arith, rest)

-- the segments before a place have as many bytes as it says
pub sum-lengths_before : (at : ℕ) (ns : List ℕ) → at ≤ sum ns → sum (lengths_before at ns) ≡ at
sum-lengths_before at [] h = omega arith
sum-lengths_before zero (n ∷ ns) h =
    ⊎_elim
    (λ (below : 0 < n). let test : nat_lt 0 n ≡ true = grind (arith, nat_tests) in rw test)
    (λ (past : n ≤ 0). sum-past 0 n ns past (sum-lengths_before (0 - n) ns (omega arith)))
    (cases_lt 0 n)
sum-lengths_before (suc at) (n ∷ ns) h =
    ⊎_elim
    (λ (below : suc at < n).
    ap sum (lengths_before-inside (suc at) n ns (omega arith) below) ∙ sum-cons (suc at) [] ∙ omega arith)
    (λ (past : n ≤ suc at).
    sum-past (suc at) n ns past (sum-lengths_before (suc at - n) ns (omega (arith, h, sum-cons n ns))))
    (cases_lt (suc at) n)

-- and those from it on have the others
pub sum-lengths_from : (at : ℕ) (ns : List ℕ) → at ≤ sum ns → sum (lengths_from at ns) ≡ sum ns - at
sum-lengths_from at [] h = omega arith
sum-lengths_from at (n ∷ ns) h =
    let all = sum-cons n ns in
    ⊎_elim
    (λ (below : at < n).
    ap sum (lengths_from-inside at n ns below) ∙ sum-cons (n - at) ns ∙ omega (arith, all))
    (λ (past : n ≤ at).
    ap sum (lengths_from-past at n ns past) ∙ sum-lengths_from (at - n) ns (omega (arith, h, all)) ∙ omega (arith, all))
    (cases_lt at n)

-- ---- a place after the first i segments

-- the first i segments lie before it
pub lengths_before-at : (xs : List (Vec ℕ Global)) (i inside at : ℕ) →
    length (held_flat (take i xs)) + inside ≡ at →
    lengths_before at (held_lengths xs) ≡ held_lengths (take i xs) ++ lengths_before inside (held_lengths (drop i xs))
lengths_before-at xs zero inside at e = let same : at ≡ inside = omega arith in rw same
lengths_before-at [] (suc i) inside at e = refl
lengths_before-at (x ∷ xs) (suc i) inside at e =
    let size = length-append x.items (held_flat (take i xs)) in
    lengths_before-past at (length x.items) (held_lengths xs) (omega arith)
    ∙ ap (λ l. length x.items ∷ l) (lengths_before-at xs i inside (at - length x.items) (omega arith))

-- and are none of the rest
pub lengths_from-at : (xs : List (Vec ℕ Global)) (i inside at : ℕ) →
    length (held_flat (take i xs)) + inside ≡ at →
    lengths_from at (held_lengths xs) ≡ lengths_from inside (held_lengths (drop i xs))
lengths_from-at xs zero inside at e = let same : at ≡ inside = omega arith in rw same
lengths_from-at [] (suc i) inside at e = refl
lengths_from-at (x ∷ xs) (suc i) inside at e =
    let size = length-append x.items (held_flat (take i xs)) in
    lengths_from-past at (length x.items) (held_lengths xs) (omega arith)
    ∙ lengths_from-at xs i inside (at - length x.items) (omega arith)

-- ---- between two segments, of which the second has bytes

-- nothing of the second lies before the place
nothing_before : (xs : List (Vec ℕ Global)) (i : ℕ) → (i < length xs →
    0 < length (get_or (contents xs) i [])) → lengths_before 0 (held_lengths (drop i xs)) ≡ []
nothing_before [] zero p = refl
nothing_before [] (suc i) p = refl
nothing_before (x ∷ xs) zero p =
    let some : 0 < length x.items = p (omega arith) in
    let below : nat_lt 0 (length x.items) ≡ true = grind (arith, nat_tests) in rw below
nothing_before (x ∷ xs) (suc i) p = nothing_before xs i (λ (h : i < length xs). p (omega arith))

-- it is whole in the rest, with those after it
all_from : (xs : List (Vec ℕ Global)) (i : ℕ) → (i < length xs → 0 < length (get_or (contents xs) i [])) →
    lengths_from 0 (held_lengths (drop i xs)) ≡ held_lengths (drop i xs)
all_from [] zero p = refl
all_from [] (suc i) p = refl
all_from (x ∷ xs) zero p =
    let whole : length x.items - 0 ≡ length x.items = omega arith in
    lengths_from-inside 0 (length x.items) (held_lengths xs) (p (omega arith)) ∙ ap (λ n. n ∷ held_lengths xs) whole
all_from (x ∷ xs) (suc i) p = all_from xs i (λ (h : i < length xs). p (omega arith))

-- the first i segments are all that lies before the place
pub between_lengths_before : (xs : List (Vec ℕ Global)) (i at : ℕ) → length (held_flat (take i xs)) ≡ at →
    (i < length xs → 0 < length (get_or (contents xs) i [])) →
    held_lengths (take i xs) ≡ lengths_before at (held_lengths xs)
between_lengths_before xs i at e p =
    sym (lengths_before-at xs i 0 at (omega arith) ∙ rw (nothing_before xs i p) (append-nil (held_lengths (take i xs))))

-- and the others are the rest
pub between_lengths_from : (xs : List (Vec ℕ Global)) (i at : ℕ) → length (held_flat (take i xs)) ≡ at →
    (i < length xs → 0 < length (get_or (contents xs) i [])) →
    held_lengths (drop i xs) ≡ lengths_from at (held_lengths xs)
between_lengths_from xs i at e p = sym (lengths_from-at xs i 0 at (omega arith) ∙ all_from xs i p)

-- the lengths of two lists of segments, one after the other
held_lengths-append : (xs ys : List (Vec ℕ Global)) →
    held_lengths (xs ++ ys) ≡ held_lengths xs ++ held_lengths ys
held_lengths-append [] ys = refl
held_lengths-append (x ∷ xs) ys = ap (λ l. length x.items ∷ l) (held_lengths-append xs ys)

-- ---- inside a segment s, which is left with its first bytes

-- the lengths of the segments before s, and of its first part
pub inside_lengths_before : (xs : List (Vec ℕ Global)) (i inside at : ℕ) (s head : Vec ℕ Global) →
    i < length xs → get_or xs i s ≡ s → length (held_flat (take i xs)) + inside ≡ at → 0 < inside →
    inside < length s.items → length head.items ≡ inside →
    held_lengths (take i xs ++ head ∷ []) ≡ lengths_before at (held_lengths xs)
inside_lengths_before xs i inside at s head h r e p w k =
    let rest = drop (i + 1) xs in
    let more : drop i xs ≡ s ∷ rest = drop_more xs i s h ∙ ap (λ v. v ∷ rest) r in
    let cut : lengths_before at (held_lengths xs) ≡ held_lengths (take i xs) ++ inside ∷ [] =
    lengths_before-at xs i inside at e
    ∙ ap (λ l. held_lengths (take i xs) ++ l)
    (ap (λ l. lengths_before inside (held_lengths l)) more
    ∙ lengths_before-inside inside (length s.items) (held_lengths rest) p w) in
    held_lengths-append (take i xs) (head ∷ []) ∙ ap (λ n. held_lengths (take i xs) ++ n ∷ []) k ∙ sym cut

-- the lengths of its second part, and of the segments after it
pub inside_lengths_from : (xs : List (Vec ℕ Global)) (i inside at : ℕ) (s tail : Vec ℕ Global) →
    i < length xs → get_or xs i s ≡ s → length (held_flat (take i xs)) + inside ≡ at →
    inside < length s.items → length tail.items ≡ length s.items - inside →
    held_lengths (set (drop i xs) 0 tail) ≡ lengths_from at (held_lengths xs)
inside_lengths_from xs i inside at s tail h r e w k =
    let rest = drop (i + 1) xs in
    let more : drop i xs ≡ s ∷ rest = drop_more xs i s h ∙ ap (λ v. v ∷ rest) r in
    let cut : lengths_from at (held_lengths xs) ≡ (length s.items - inside) ∷ held_lengths rest =
    lengths_from-at xs i inside at e
    ∙ ap (λ l. lengths_from inside (held_lengths l)) more
    ∙ lengths_from-inside inside (length s.items) (held_lengths rest) w in
    ap (λ (l : List (Vec ℕ Global)). held_lengths (set l 0 tail)) more ∙ ap (λ n. n ∷ held_lengths rest) k ∙ sym cut
