-- `take` and `drop` over two lists.
use Rattle.vfs_segments.specs.Segments.{with_bytes_at}
use Rattle.vfs_segments.specs.SegmentLaws.{take-with_bytes_at, length-with_bytes_at}
use Rattle.std.proofs.Common.{◌≡◌, ℕ, ◌+◌, ◌-◌, ◌≤◌, List, [], ◌∷◌, ◌++◌, zero, suc, length, take, drop, min, ap, ◌∙◌, sym, arith, append_assoc, length-append, length-drop, length-take}

pub drop-append_min : (xs ys : List ℕ) (n : ℕ) → drop n (xs ++ ys) ≡ drop (min n (length xs)) xs ++ drop (n - min n (length xs)) ys
drop-append_min [] ys n =
    let e : min n 0 ≡ 0 = omega arith in
    let d : n - 0 ≡ n = omega arith in
    rw (e, d)
drop-append_min (x ∷ xs) ys zero = let e : min 0 (suc (length xs)) ≡ 0 = omega arith in rw e
drop-append_min (x ∷ xs) ys (suc n) =
    let e : min (suc n) (suc (length xs)) ≡ suc (min n (length xs)) = omega arith in
    let d : suc n - suc (min n (length xs)) ≡ n - min n (length xs) = omega arith in
    rw (e, d) (drop-append_min xs ys n)

pub take-append_min : (xs ys : List ℕ) (n : ℕ) → take n (xs ++ ys) ≡ take (min n (length xs)) xs ++ take (n - min n (length xs)) ys
take-append_min [] ys n =
    let e : min n 0 ≡ 0 = omega arith in
    let d : n - 0 ≡ n = omega arith in
    rw (e, d)
take-append_min (x ∷ xs) ys zero = let e : min 0 (suc (length xs)) ≡ 0 = omega arith in rw e
take-append_min (x ∷ xs) ys (suc n) =
    let e : min (suc n) (suc (length xs)) ≡ suc (min n (length xs)) = omega arith in
    let d : suc n - suc (min n (length xs)) ≡ n - min n (length xs) = omega arith in
    rw (e, d) (ap (λ l. x ∷ l) (take-append_min xs ys n))

-- the next m bytes past skip, of a first list and what follows it
pub window_step : (s rest : List ℕ) (skip m from n : ℕ) → from ≡ min skip (length s) → n ≡ min (length s - from) m → take m (drop skip (s ++ rest)) ≡ take n (drop from s) ++ take (m - n) (drop (skip - from) rest)
window_step s rest skip m from n e f =
    let g : min m (length (drop from s)) ≡ n = omega (arith, length-drop from s) in
    ap (take m) (rw e (drop-append_min s rest skip)) ∙ rw g at (take-append_min (drop from s) (drop (skip - from) rest) m)

pub ruleset bytes_at = (take-with_bytes_at, length-with_bytes_at)

-- one segment of a copy into a buffer: what the buffer has, and what it is still to get
pub record IsTurn (new rest whole : List ℕ) (skip done : ℕ) : Type 0 where
  pub same_within : done ≤ length new
  pub still_fits : skip + (length new - done) ≤ length rest
  pub joined : take done new ++ take (length new - done) (drop skip rest) ≡ whole

pub turn : (buf new s rest whole part : List ℕ) (skip done from n : ℕ) → from ≡ min skip (length s) → n ≡ min (length s - from) (length buf - done) → part ≡ take n (drop from s) → done ≤ length buf → skip + (length buf - done) ≤ length (s ++ rest) → take done buf ++ take (length buf - done) (drop skip (s ++ rest)) ≡ whole → new ≡ with_bytes_at done part buf → IsTurn new rest whole (skip - from) (done + n)
turn buf new s rest whole part skip done from n e f p w h j r =
    let size : length part ≡ n = omega (arith, ap length p, length-take n (drop from s), length-drop from s) in
    let same : length new ≡ length buf = ap length r ∙ length-with_bytes_at done part buf (omega arith) in
    let front : take (done + n) new ≡ take done buf ++ part = ap (take (done + n)) r ∙ take-with_bytes_at done (done + n) part buf w (omega arith) in
    let left : length new - (done + n) ≡ (length buf - done) - n = omega arith in
    record {
      same_within = omega arith;
      still_fits = omega (arith, length-append s rest);
      joined = rw (front, left, p) (append_assoc (take done buf) (take n (drop from s)) _ ∙ ap (λ l. take done buf ++ l) (sym (window_step s rest skip (length buf - done) from n e f)) ∙ j);
    }

-- one segment of a copy into memory of its own
pub record IsPut (new rest whole : List ℕ) (skip n : ℕ) : Type 0 where
  pub within_n : length new ≤ n
  pub fits_rest : skip + (n - length new) ≤ length rest
  pub makes : new ++ take (n - length new) (drop skip rest) ≡ whole

pub put_after : (old new s rest whole part : List ℕ) (skip n from m : ℕ) → from ≡ min skip (length s) → m ≡ min (length s - from) (n - length old) → part ≡ take m (drop from s) → length old ≤ n → skip + (n - length old) ≤ length (s ++ rest) → old ++ take (n - length old) (drop skip (s ++ rest)) ≡ whole → new ≡ old ++ part → IsPut new rest whole (skip - from) n
put_after old new s rest whole part skip n from m e f p w h j r =
    let size : length part ≡ m = omega (arith, ap length p, length-take m (drop from s), length-drop from s) in
    let long : length new ≡ length old + length part = ap length r ∙ length-append old part in
    let left : n - length new ≡ (n - length old) - m = omega arith in
    record {
      within_n = omega arith;
      fits_rest = omega (arith, length-append s rest);
      makes =
          ap (λ k. new ++ take k (drop (skip - from) rest)) left
          ∙ ap (λ l. l ++ take ((n - length old) - m) (drop (skip - from) rest)) (r ∙ ap (λ l. old ++ l) p)
          ∙ append_assoc old (take m (drop from s)) (take ((n - length old) - m) (drop (skip - from) rest))
          ∙ ap (λ l. old ++ l) (sym (window_step s rest skip (n - length old) from m e f)) ∙ j;
    }
