-- Running totals of the lengths of segments, and the place that they tell.
use Rattle.std.proofs.Common.{◌≡◌, ℕ, ◌+◌, ◌<◌, ◌≤◌, List, [], ◌∷◌, ◌++◌, zero, suc, length, take, map, get_or, ap, ◌∙◌, refl, arith, length-append}
use Rattle.std.proofs.lemmas.List.{length-map, take_all, take_more}
use Rattle.std.specs.List.{concat}
use Rattle.vfs_segments.specs.Totals.{totals_from, totals_of, NeverFalls}

-- there is one total for each length
pub length-totals_from : (at : ℕ) (ns : List ℕ) → length (totals_from at ns) ≡ length ns
length-totals_from at [] = refl
length-totals_from at (n ∷ ns) = ap suc (length-totals_from (at + n) ns)

-- and so one for each segment
pub length-totals_of : (xs : List (List ℕ)) → length (totals_of (map length xs)) ≡ length xs
length-totals_of xs = length-totals_from 0 (map length xs) ∙ length-map xs length

-- each is at least where the first segment begins
least : (at : ℕ) (ns : List ℕ) (j : ℕ) → j < length (totals_from at ns) → at ≤ get_or (totals_from at ns) j 0
least at [] j h = absurd (omega arith)
least at (n ∷ ns) zero h = omega arith
least at (n ∷ ns) (suc j) h = omega (arith, least (at + n) ns j (omega arith))

falls : (at : ℕ) (ns : List ℕ) (i j : ℕ) → i ≤ j → j < length (totals_from at ns) →
    get_or (totals_from at ns) i 0 ≤ get_or (totals_from at ns) j 0
falls at [] i j e h = absurd (omega arith)
falls at (n ∷ ns) zero zero e h = omega arith
falls at (n ∷ ns) zero (suc j) e h = least (at + n) ns j (omega arith)
falls at (n ∷ ns) (suc i) zero e h = absurd (omega arith)
falls at (n ∷ ns) (suc i) (suc j) e h = falls (at + n) ns i j (omega arith) (omega arith)

-- running totals never fall
pub never_falls : (ns : List ℕ) → NeverFalls (totals_of ns)
never_falls ns = record { ordered = falls 0 ns }

-- one segment more, whose total is the last
totals_from-more : (at : ℕ) (xs : List (List ℕ)) (y : List ℕ) →
    totals_from at (map length (xs ++ y ∷ []))
    ≡ totals_from at (map length xs) ++ (at + length (concat xs) + length y) ∷ []
totals_from-more at [] y = let e : at + 0 + length y ≡ at + length y = omega arith in rw e
totals_from-more at (x ∷ xs) y =
    let e : at + length x + length (concat xs) + length y ≡ at + length (x ++ concat xs) + length y =
    omega (arith, length-append x (concat xs)) in
    ap (λ l. (at + length x) ∷ l)
    (totals_from-more (at + length x) xs y
    ∙ ap (λ n. totals_from (at + length x) (map length xs) ++ n ∷ []) e)

-- the same of the segments of a list
pub totals_of-more : (xs : List (List ℕ)) (i : ℕ) → i < length xs →
    totals_of (map length (take (i + 1) xs))
    ≡ totals_of (map length (take i xs)) ++ (length (concat (take i xs)) + length (get_or xs i [])) ∷ []
totals_of-more xs i h =
    let front = take i xs in
    let s = get_or xs i [] in
    let e : 0 + length (concat front) + length s ≡ length (concat front) + length s = omega arith in
    ap (λ l. totals_of (map length l)) (take_more xs i [] h)
    ∙ totals_from-more 0 front s ∙ ap (λ n. totals_of (map length front) ++ n ∷ []) e

-- a total is how many bytes the segments up to its own have
total-up_to : (xs : List (List ℕ)) (at i : ℕ) → i < length xs →
    get_or (totals_from at (map length xs)) i 0 ≡ at + length (concat (take (suc i) xs))
total-up_to [] at i h = absurd (omega arith)
total-up_to (x ∷ xs) at zero h = omega (arith, length-append x [])
total-up_to (x ∷ xs) at (suc i) h =
    total-up_to xs (at + length x) i (omega arith)
    ∙ omega (arith, length-append x (concat (take (suc i) xs)))

-- which is those before it, and its own
total-at : (xs : List (List ℕ)) (at i : ℕ) → i < length xs →
    get_or (totals_from at (map length xs)) i 0
    ≡ at + length (concat (take i xs)) + length (get_or xs i [])
total-at [] at i h = absurd (omega arith)
total-at (x ∷ xs) at zero h = omega arith
total-at (x ∷ xs) at (suc i) h =
    total-at xs (at + length x) i (omega arith)
    ∙ omega (arith, length-append x (concat (take i xs)))

-- where segment i lies among all of them
pub record IsListed (xs : List (List ℕ)) (totals : List ℕ) (i : ℕ) : Type 0 where
  pub listed : i < length xs
  pub ends : get_or totals i 0 ≡ length (concat (take i xs)) + length (get_or xs i [])

-- a total tells it
pub listed_by : (xs : List (List ℕ)) (totals : List ℕ) (i : ℕ) → totals ≡ totals_of (map length xs) →
    i < length totals → IsListed xs totals i
listed_by xs totals i is h =
    let count : length totals ≡ length xs = ap length is ∙ length-totals_of xs in
    let listed : i < length xs = omega arith in
    record {
      listed = listed;
      ends = ap (λ l. get_or l i 0) is ∙ total-at xs 0 i listed ∙ omega arith;
    }

-- place `at` lies in segment i, or past all of them
pub record IsPlaced (xs : List (List ℕ)) (totals : List ℕ) (at i : ℕ) : Type 0 where
  pub count : length totals ≡ length xs
  pub within : i ≤ length xs
  pub begins : length (concat (take i xs)) ≤ at
  pub ends : i < length xs → get_or totals i 0 ≡ length (concat (take i xs)) + length (get_or xs i [])
  pub inside : i < length xs → at < length (concat (take i xs)) + length (get_or xs i [])
  pub past : length xs ≤ i → at ≡ length (concat (take i xs))

-- what is before the first total above a place is before the place
begins_by : (xs : List (List ℕ)) (at i : ℕ) → i ≤ length xs →
    ((j : ℕ) → j < i → get_or (totals_of (map length xs)) j 0 ≤ at) →
    length (concat (take i xs)) ≤ at
begins_by xs at zero w passed = omega arith
begins_by xs at (suc j) w passed =
    omega (arith, passed j (omega arith), total-up_to xs 0 j (omega arith))

-- the first total above a place is that of the segment in which it lies
pub placed : (xs : List (List ℕ)) (totals : List ℕ) (at i : ℕ) → totals ≡ totals_of (map length xs) →
    at ≤ length (concat xs) → i ≤ length totals →
    ((j : ℕ) → j < i → get_or totals j 0 ≤ at) → (i < length totals → at < get_or totals i 0) →
    IsPlaced xs totals at i
placed xs totals at i is fits within passed found =
    let count : length totals ≡ length xs =
    ap length is ∙ length-totals_of xs in
    let w : i ≤ length xs = omega arith in
    let b = begins_by xs at i w (rw is at passed) in
    let value : get_or totals i 0 ≡ get_or (totals_of (map length xs)) i 0 = ap (λ l. get_or l i 0) is in
    record {
      count = count;
      within = w;
      begins = b;
      ends = λ h. omega (arith, value, total-at xs 0 i h);
      inside = λ h. omega (arith, found (omega arith), value, total-at xs 0 i h);
      past = λ h. omega (arith, b, ap (λ l. length (concat l)) (take_all i xs h));
    }
