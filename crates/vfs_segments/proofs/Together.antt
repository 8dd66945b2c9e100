-- The lengths of segments that are cut at two places, and the bytes that lie in one of them.
use Rattle.std.proofs.Common.{◌≡◌, ℕ, ◌+◌, ◌-◌, ◌<◌, ◌≤◌, List, [], ◌∷◌, ◌++◌, zero, suc, true, false, nat_lt, length, take, drop, map, get_or, ap, ◌∙◌, sym, refl, arith, ⊎_elim, length-append}
use Rattle.std.proofs.lemmas.Bool.{cases_lt}
use Rattle.std.proofs.lemmas.Bool.Decides.{nat_tests}
use Rattle.std.proofs.lemmas.List.{drop_more}
use Rattle.std.specs.List.{concat}
use Rattle.std.specs.Prelude.{sum, nat_le}
use Rattle.vfs_segments.specs.Lengths.{lengths_before, lengths_from, lie_together}
use Rattle.vfs_segments.specs.Segments.{lengths_of}
use Rattle.vfs_segments.proofs.LengthCuts.{lengths_before-inside, lengths_before-past, lengths_from-inside, lengths_from-past, sum-cons, sum-lengths_from}

-- ---- cut twice

-- what is left past a place, seen from n bytes on
pub from-from : (at n : ℕ) (ms : List ℕ) → lengths_from n (lengths_from at ms) ≡ lengths_from (at + n) ms
from-from at n [] = refl
from-from at n (m ∷ ms) =
    ⊎_elim
    (λ (below : at < m).
    ap (lengths_from n) (lengths_from-inside at m ms below)
    ∙ ⊎_elim
    (λ (h : n < m - at).
    let same : m - at - n ≡ m - (at + n) = omega arith in
    lengths_from-inside n (m - at) ms h ∙ ap (λ k. k ∷ ms) same ∙ sym (lengths_from-inside (at + n) m ms (omega arith)))
    (λ (h : m - at ≤ n).
    let same : n - (m - at) ≡ at + n - m = omega arith in
    lengths_from-past n (m - at) ms h ∙ ap (λ k. lengths_from k ms) same ∙ sym (lengths_from-past (at + n) m ms (omega arith)))
    (cases_lt n (m - at)))
    (λ (past : m ≤ at).
    let same : at - m + n ≡ at + n - m = omega arith in
    ap (lengths_from n) (lengths_from-past at m ms past) ∙ from-from (at - m) n ms
    ∙ ap (λ k. lengths_from k ms) same ∙ sym (lengths_from-past (at + n) m ms (omega arith)))
    (cases_lt at m)

-- nothing lies before the beginning of bytes
before-none : (m : ℕ) (ms : List ℕ) → 0 < m → lengths_before 0 (m ∷ ms) ≡ []
before-none m ms h = let below : nat_lt 0 m ≡ true = grind (arith, nat_tests) in rw below

-- what lies before a place, from an earlier one on
pub from-before : (n k : ℕ) (ms : List ℕ) → n ≤ k →
    lengths_from n (lengths_before k ms) ≡ lengths_before (k - n) (lengths_from n ms)
from-before n k [] h = refl
from-before n zero (m ∷ ms) h =
    let none : n ≡ 0 = omega arith in
    rw none
    (⊎_elim
    (λ (below : 0 < m).
    ap (lengths_from 0) (before-none m ms below)
    ∙ sym (ap (lengths_before 0) (lengths_from-inside 0 m ms below) ∙ before-none (m - 0) ms (omega arith)))
    (λ (past : m ≤ 0).
    let same : 0 - m - (0 - m) ≡ 0 = omega arith in
    ap (lengths_from 0) (lengths_before-past 0 m ms past)
    ∙ lengths_from-past 0 m (lengths_before (0 - m) ms) past ∙ from-before (0 - m) (0 - m) ms (omega arith)
    ∙ ap (λ j. lengths_before j (lengths_from (0 - m) ms)) same
    ∙ sym (ap (lengths_before 0) (lengths_from-past 0 m ms past)))
    (cases_lt 0 m))
from-before n (suc k) (m ∷ ms) h =
    ⊎_elim
    (λ (below : suc k < m).
    ap (lengths_from n) (lengths_before-inside (suc k) m ms (omega arith) below)
    ∙ ⊎_elim
    (λ (inside : n < suc k).
    lengths_from-inside n (suc k) [] inside
    ∙ sym
    (ap (lengths_before (suc k - n)) (lengths_from-inside n m ms (omega arith))
    ∙ lengths_before-inside (suc k - n) (m - n) ms (omega arith) (omega arith)))
    (λ (at_end : suc k ≤ n).
    let none : suc k - n ≡ 0 = omega arith in
    lengths_from-past n (suc k) [] at_end
    ∙ sym
    (ap (lengths_before (suc k - n)) (lengths_from-inside n m ms (omega arith))
    ∙ ap (λ j. lengths_before j ((m - n) ∷ ms)) none ∙ before-none (m - n) ms (omega arith)))
    (cases_lt n (suc k)))
    (λ (past : m ≤ suc k).
    ap (lengths_from n) (lengths_before-past (suc k) m ms past)
    ∙ ⊎_elim
    (λ (inside : n < m).
    let same : suc k - m ≡ suc k - n - (m - n) = omega arith in
    lengths_from-inside n m (lengths_before (suc k - m) ms) inside
    ∙ ap (λ j. (m - n) ∷ lengths_before j ms) same
    ∙ sym
    (ap (lengths_before (suc k - n)) (lengths_from-inside n m ms inside)
    ∙ lengths_before-past (suc k - n) (m - n) ms (omega arith)))
    (λ (following : m ≤ n).
    let same : suc k - m - (n - m) ≡ suc k - n = omega arith in
    lengths_from-past n m (lengths_before (suc k - m) ms) following ∙ from-before (n - m) (suc k - m) ms (omega arith)
    ∙ ap (λ j. lengths_before j (lengths_from (n - m) ms)) same
    ∙ sym (ap (lengths_before (suc k - n)) (lengths_from-past n m ms following)))
    (cases_lt n m))
    (cases_lt (suc k) m)

-- what lies before a place, up to an earlier one
pub before-before : (n k : ℕ) (ms : List ℕ) → n ≤ k →
    lengths_before n (lengths_before k ms) ≡ lengths_before n ms
before-before n k [] h = refl
before-before n zero (m ∷ ms) h =
    let none : n ≡ 0 = omega arith in
    rw none
    (⊎_elim
    (λ (below : 0 < m). ap (lengths_before 0) (before-none m ms below) ∙ sym (before-none m ms below))
    (λ (past : m ≤ 0).
    ap (lengths_before 0) (lengths_before-past 0 m ms past)
    ∙ lengths_before-past 0 m (lengths_before (0 - m) ms) past
    ∙ ap (λ l. m ∷ l) (before-before (0 - m) (0 - m) ms (omega arith)) ∙ sym (lengths_before-past 0 m ms past))
    (cases_lt 0 m))
before-before n (suc k) (m ∷ ms) h =
    ⊎_elim
    (λ (below : suc k < m).
    ap (lengths_before n) (lengths_before-inside (suc k) m ms (omega arith) below)
    ∙ ⊎_elim
    (λ (inside : n < suc k).
    let front : nat_lt n (suc k) ≡ true = grind (arith, nat_tests) in
    let whole : nat_lt n m ≡ true = grind (arith, nat_tests) in
    rw (front, whole) refl)
    (λ (at_end : suc k ≤ n).
    let same : n ≡ suc k = omega arith in
    rw same (lengths_before-past (suc k) (suc k) [] (omega arith) ∙ sym (lengths_before-inside (suc k) m ms (omega arith) below)))
    (cases_lt n (suc k)))
    (λ (past : m ≤ suc k).
    ap (lengths_before n) (lengths_before-past (suc k) m ms past)
    ∙ ⊎_elim
    (λ (inside : n < m). let front : nat_lt n m ≡ true = grind (arith, nat_tests) in rw front refl)
    (λ (following : m ≤ n).
    lengths_before-past n m (lengths_before (suc k - m) ms) following
    ∙ ap (λ l. m ∷ l) (before-before (n - m) (suc k - m) ms (omega arith)) ∙ sym (lengths_before-past n m ms following))
    (cases_lt n m))
    (cases_lt (suc k) m)

-- all of them lie before their end
before-all : (k : ℕ) (ms : List ℕ) → sum ms ≤ k → lengths_before k ms ≡ ms
before-all k [] h = refl
before-all k (m ∷ ms) h =
    let all = sum-cons m ms in
    lengths_before-past k m ms (omega (arith, h, all))
    ∙ ap (λ l. m ∷ l) (before-all (k - m) ms (omega (arith, h, all)))

-- segments have as many bytes as their lengths say
sum-lengths_of : (xs : List (List ℕ)) → sum (lengths_of xs) ≡ length (concat xs)
sum-lengths_of [] = refl
sum-lengths_of (x ∷ xs) =
    sum-cons (length x) (lengths_of xs) ∙ ap (λ n. length x + n) (sum-lengths_of xs)
    ∙ sym (length-append x (concat xs))

-- the pieces of a new reader
pub pieces_of_all : (xs : List (List ℕ)) (end : ℕ) → end ≡ length (concat xs) →
    lengths_before (end - 0) (lengths_from 0 (lengths_of xs)) ≡ lengths_from 0 (lengths_of xs)
pieces_of_all xs end e =
    let all = sum-lengths_from 0 (lengths_of xs) (omega arith) in
    before-all (end - 0) (lengths_from 0 (lengths_of xs)) (omega (arith, all, e, sum-lengths_of xs))

-- ---- bytes that lie in one segment

-- those of the first
together-inside : (at n m : ℕ) (ms : List ℕ) → at < m → at + n ≤ m → lie_together at n (m ∷ ms) ≡ true
together-inside at n m ms h fits =
    let below : nat_lt at m ≡ true = grind (arith, nat_tests) in
    let whole : nat_le (at + n) m ≡ true = grind (arith, nat_tests) in
    rw (below, whole) refl

-- some that begin in the first and don't end in it
together-over : (at n m : ℕ) (ms : List ℕ) → at < m → m < at + n → lie_together at n (m ∷ ms) ≡ false
together-over at n m ms h over =
    let below : nat_lt at m ≡ true = grind (arith, nat_tests) in
    let cut : nat_le (at + n) m ≡ false = grind (arith, nat_tests) in
    rw (below, cut) refl

-- those past the first
together-past : (at n m : ℕ) (ms : List ℕ) → m ≤ at → lie_together at n (m ∷ ms) ≡ lie_together (at - m) n ms
together-past at n m ms h = let past : nat_lt at m ≡ false = grind (arith, nat_tests) in rw past refl

-- no bytes do at each place
together-none : (at : ℕ) (ms : List ℕ) → lie_together at 0 ms ≡ true
together-none at [] = refl
together-none at (m ∷ ms) =
    ⊎_elim
    (λ (below : at < m). together-inside at 0 m ms below (omega arith))
    (λ (past : m ≤ at). together-past at 0 m ms past ∙ together-none (at - m) ms)
    (cases_lt at m)

-- from a place on, as from the beginning
pub together-from : (at n k : ℕ) (ms : List ℕ) → lie_together at n (lengths_from k ms) ≡ lie_together (k + at) n ms
together-from at n k [] = refl
together-from at n k (m ∷ ms) =
    ⊎_elim
    (λ (below : k < m).
    ap (lie_together at n) (lengths_from-inside k m ms below)
    ∙ ⊎_elim
    (λ (h : at < m - k).
    ⊎_elim
    (λ (over : m < k + at + n).
    together-over at n (m - k) ms h (omega arith) ∙ sym (together-over (k + at) n m ms (omega arith) over))
    (λ (fits : k + at + n ≤ m).
    together-inside at n (m - k) ms h (omega arith) ∙ sym (together-inside (k + at) n m ms (omega arith) fits))
    (cases_lt m (k + at + n)))
    (λ (h : m - k ≤ at).
    let same : at - (m - k) ≡ k + at - m = omega arith in
    together-past at n (m - k) ms h ∙ ap (λ j. lie_together j n ms) same ∙ sym (together-past (k + at) n m ms (omega arith)))
    (cases_lt at (m - k)))
    (λ (past : m ≤ k).
    let same : k - m + at ≡ k + at - m = omega arith in
    ap (lie_together at n) (lengths_from-past k m ms past) ∙ together-from at n (k - m) ms
    ∙ ap (λ j. lie_together j n ms) same ∙ sym (together-past (k + at) n m ms (omega arith)))
    (cases_lt k m)

-- up to a place after them, as up to the end
pub together-before : (at n k : ℕ) (ms : List ℕ) → at + n ≤ k → lie_together at n (lengths_before k ms) ≡ lie_together at n ms
together-before at n k [] h = refl
together-before at n zero (m ∷ ms) h =
    let none : n ≡ 0 = omega arith in
    rw none (together-none at (lengths_before 0 (m ∷ ms)) ∙ sym (together-none at (m ∷ ms)))
together-before at n (suc k) (m ∷ ms) h =
    ⊎_elim
    (λ (below : suc k < m).
    ap (lie_together at n) (lengths_before-inside (suc k) m ms (omega arith) below)
    ∙ ⊎_elim
    (λ (inside : at < suc k).
    together-inside at n (suc k) [] inside h ∙ sym (together-inside at n m ms (omega arith) (omega arith)))
    (λ (at_end : suc k ≤ at).
    let none : n ≡ 0 = omega arith in
    rw none (together-none at (suc k ∷ []) ∙ sym (together-none at (m ∷ ms))))
    (cases_lt at (suc k)))
    (λ (past : m ≤ suc k).
    ap (lie_together at n) (lengths_before-past (suc k) m ms past)
    ∙ ⊎_elim
    (λ (inside : at < m). let front : nat_lt at m ≡ true = grind (arith, nat_tests) in rw front refl)
    (λ (following : m ≤ at).
    together-past at n m (lengths_before (suc k - m) ms) following
    ∙ together-before (at - m) n (suc k - m) ms (omega arith) ∙ sym (together-past at n m ms following))
    (cases_lt at m))
    (cases_lt (suc k) m)

-- ---- what a segment has, and what is cut

-- bytes of one segment
pub together-in : (before : List ℕ) (m : ℕ) (after : List ℕ) (at n : ℕ) → at + n ≤ m →
    lie_together (sum before + at) n (before ++ m ∷ after) ≡ true
together-in [] m after at n h =
    let same : sum [] + at ≡ at = omega arith in
    rw same
    (⊎_elim
    (λ (below : at < m). together-inside at n m after below h)
    (λ (past : m ≤ at).
    let none : n ≡ 0 = omega arith in
    rw none (together-none at (m ∷ after)))
    (cases_lt at m))
together-in (k ∷ before) m after at n h =
    let same : sum (k ∷ before) + at - k ≡ sum before + at = omega (arith, sum-cons k before) in
    together-past (sum (k ∷ before) + at) n k (before ++ m ∷ after) (omega (arith, sum-cons k before))
    ∙ ap (λ j. lie_together j n (before ++ m ∷ after)) same ∙ together-in before m after at n h

-- bytes over the end of a segment
pub together-cut : (before after : List ℕ) (at n : ℕ) → at < sum before → sum before < at + n →
    lie_together at n (before ++ after) ≡ false
together-cut [] after at n h over = absurd (omega arith)
together-cut (k ∷ before) after at n h over =
    let all = sum-cons k before in
    ⊎_elim
    (λ (below : at < k). together-over at n k (before ++ after) below (omega (arith, over, all)))
    (λ (past : k ≤ at).
    together-past at n k (before ++ after) past
    ∙ together-cut before after (at - k) n (omega (arith, h, all)) (omega (arith, over, all)))
    (cases_lt at k)

-- ---- the lengths of segments

-- bytes after the first i segments
following : (xs : List (List ℕ)) (i skip at n : ℕ) → length (concat (take i xs)) + skip ≡ at →
    lie_together at n (map length xs) ≡ lie_together skip n (map length (drop i xs))
following xs zero skip at n e = let same : at ≡ skip = omega arith in rw same refl
following [] (suc i) skip at n e = refl
following (x ∷ xs) (suc i) skip at n e =
    let size = length-append x (concat (take i xs)) in
    together-past at n (length x) (map length xs) (omega arith)
    ∙ following xs i skip (at - length x) n (omega arith)

-- bytes that begin in segment i, of which it has enough or not
pub together-at : (xs : List (List ℕ)) (i skip at n : ℕ) → length (concat (take i xs)) + skip ≡ at →
    i < length xs → skip < length (get_or xs i []) →
    lie_together at n (map length xs) ≡ nat_le (skip + n) (length (get_or xs i []))
together-at xs i skip at n e h inside =
    let below : nat_lt skip (length (get_or xs i [])) ≡ true = grind (arith, nat_tests) in
    following xs i skip at n e
    ∙ ap (λ (l : List (List ℕ)). lie_together skip n (map length l)) (drop_more xs i [] h) ∙ rw below refl

-- no bytes
pub together-end : (xs : List (List ℕ)) (at n : ℕ) → n ≡ 0 → lie_together at n (map length xs) ≡ true
together-end xs at n e = rw e (together-none at (map length xs))
