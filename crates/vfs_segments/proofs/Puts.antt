-- Bytes that are written over a list of segments.
use Rattle.std.proofs.Common.{◌≡◌, ℕ, ◌+◌, ◌-◌, ◌<◌, ◌≤◌, List, [], ◌∷◌, ◌++◌, zero, suc, length, take, drop, map, min, set, get_or, ap, ◌∙◌, sym, arith, append_assoc, append-nil, length-append, length-drop, length-take, take-append-drop, refl, ⊎_elim}
use Rattle.std.proofs.lemmas.List.{take_all, drop_all, take-append-le, drop-append-le, drop-drop, take_more_set, drop-set-lt, drop_more, map-set, set-get_or, get_or-map, length-map, nil_from_length}
use Rattle.std.proofs.lemmas.Bool.{cases_lt}
use Rattle.std.specs.List.{concat}
use Rattle.std.specs.declared.vec.Vec.{Vec}
use Rattle.std.specs.declared.alloc.Global.{Global}
use Rattle.vfs_segments.specs.Segments.{contents, lengths_of, with_bytes_at}
use Rattle.vfs_segments.specs.SegmentLaws.{length-with_bytes_at}
use Rattle.vfs_segments.specs.Totals.{totals_of}
use Rattle.std.proofs.lemmas.List.Folds.{concat-append}
use Rattle.vfs_segments.proofs.Flat.{concat-split}

pub take-append_past : (xs ys : List ℕ) (n m : ℕ) → m ≡ length xs + n → take m (xs ++ ys) ≡ xs ++ take n ys
take-append_past [] ys n m e = let same : m ≡ n = omega arith in rw same
take-append_past (x ∷ xs) ys n zero e = absurd (omega arith)
take-append_past (x ∷ xs) ys n (suc m) e = ap (λ l. x ∷ l) (take-append_past xs ys n m (omega arith))

pub drop-append_past : (xs ys : List ℕ) (n m : ℕ) → m ≡ length xs + n → drop m (xs ++ ys) ≡ drop n ys
drop-append_past [] ys n m e = let same : m ≡ n = omega arith in rw same
drop-append_past (x ∷ xs) ys n zero e = absurd (omega arith)
drop-append_past (x ∷ xs) ys n (suc m) e = drop-append_past xs ys n m (omega arith)

-- bytes written over a first list and what follows it
pub put_step : (s rest bs : List ℕ) (skip from n : ℕ) → from ≡ min skip (length s) → n ≡ min (length s - from) (length bs) → with_bytes_at skip bs (s ++ rest) ≡ with_bytes_at from (take n bs) s ++ with_bytes_at (skip - from) (drop n bs) rest
unfolding with_bytes_at
put_step s rest bs skip from n e f =
    ⊎_elim (λ (past : length s < skip).
    let a : from ≡ length s = omega arith in
    let z : n ≡ 0 = omega arith in
    let whole : length s + 0 ≡ length s = omega arith in
    let k : skip + length bs ≡ length s + (skip - length s + length bs) = omega arith in
    rw (a, z, whole, take_all (length s) s (omega arith), drop_all (length s) s (omega arith), append-nil s)
    (rw (take-append_past s rest (skip - length s) skip (omega arith), drop-append_past s rest (skip - length s + length bs) (skip + length bs) k) (append_assoc s (take (skip - length s) rest) (bs ++ drop (skip - length s + length bs) rest))))
    (λ (h : skip ≤ length s).
    let a : from ≡ skip = omega arith in
    let z : skip - skip ≡ 0 = omega arith in
    ⊎_elim (λ (short : length bs < length s - skip).
    let m : n ≡ length bs = omega arith in
    let all = take_all (length bs) bs (omega arith) in
    let none = drop_all (length bs) bs (omega arith) in
    rw (a, z, m, all, none)
    (rw (take-append-le skip s rest h, drop-append-le (skip + length bs) s rest (omega arith)) (simp append_assoc)))
    (λ (long : length s - skip ≤ length bs).
    let m : n ≡ length s - skip = omega arith in
    let size : length (take n bs) ≡ n = omega (arith, length-take n bs) in
    let to_end : length s ≤ skip + n = omega arith in
    let k : skip + length bs ≡ length s + (length bs - n) = omega arith in
    let q : 0 + length (drop n bs) ≡ length bs - n = omega (arith, length-drop n bs) in
    rw (a, z, size, drop_all (skip + n) s to_end, append-nil (take n bs), q)
    (rw (take-append-le skip s rest h, drop-append_past s rest (length bs - n) (skip + length bs) k)
    (ap (λ l. take skip s ++ (l ++ drop (length bs - n) rest)) (sym (take-append-drop n bs)) ∙ simp append_assoc)))
    (cases_lt (length bs) (length s - skip)))
    (cases_lt (length s) skip)

-- what a write to a part of a Vec leaves
pub vec_written : (len at : ℕ) (w xs : List ℕ) → len ≡ length xs → at + length w ≤ length xs → take len ((take at xs ++ (w ++ drop (length w) (drop at xs))) ++ drop (length (take at xs ++ (w ++ drop (length w) (drop at xs)))) xs) ≡ with_bytes_at at w xs
unfolding with_bytes_at
vec_written len at w xs e h =
    let x = take at xs ++ (w ++ drop (length w) (drop at xs)) in
    let size : length x ≡ len = omega (arith, length-append (take at xs) (w ++ drop (length w) (drop at xs)), length-append w (drop (length w) (drop at xs)), length-take at xs, length-drop (length w) (drop at xs), length-drop at xs) in
    take-append-le len x (drop (length x) xs) (omega arith) ∙ take_all len x (omega arith) ∙ ap (λ l. take at xs ++ (w ++ l)) (drop-drop (length w) at xs)

pub record IsTurn (ys : List (List ℕ)) (i skip : ℕ) (bs whole : List ℕ) : Type 0 where
  pub still_fits : skip + length bs ≤ length (concat (drop i ys))
  pub joined : concat (take i ys) ++ with_bytes_at skip bs (concat (drop i ys)) ≡ whole

-- one segment of a write
pub turn : (xs : List (List ℕ)) (i skip from n : ℕ) (s bs whole : List ℕ) → i < length xs → get_or xs i [] ≡ s → from ≡ min skip (length s) → n ≡ min (length s - from) (length bs) → IsTurn xs i skip bs whole → IsTurn (set xs i (with_bytes_at from (take n bs) s)) (i + 1) (skip - from) (drop n bs) whole
turn xs i skip from n s bs whole h r e f t =
    let y = with_bytes_at from (take n bs) s in
    let rest = concat (drop (i + 1) xs) in
    let more : concat (drop i xs) ≡ s ++ rest = ap concat (drop_more xs i [] h) ∙ ap (λ l. l ++ rest) r in
    let later : drop (i + 1) (set xs i y) ≡ drop (i + 1) xs = drop-set-lt (i + 1) xs i y (omega arith) in
    let front : concat (take (i + 1) (set xs i y)) ≡ concat (take i xs) ++ y =
    ap concat (take_more_set xs i y h) ∙ concat-append (take i xs) (y ∷ []) ∙ ap (λ l. concat (take i xs) ++ l) (append-nil y) in
    record {
      still_fits = rw later (omega (arith, rw more at t.still_fits, length-append s rest, length-drop n bs));
      joined = rw (later, front) (append_assoc (concat (take i xs)) y (with_bytes_at (skip - from) (drop n bs) rest) ∙ ap (λ l. concat (take i xs) ++ l) (sym (put_step s rest bs skip from n e f)) ∙ rw more at t.joined);
    }

pub same_lengths : (xs : List (List ℕ)) (j : ℕ) (y : List ℕ) → length y ≡ length (get_or xs j []) → j < length xs → map length (set xs j y) ≡ map length xs
same_lengths xs j y e h =
    map-set length xs j y ∙ ap (λ n. set (map length xs) j n) (e ∙ sym (get_or-map length xs j [] 0 h)) ∙ set-get_or (map length xs) j 0

pub nothing_put : (skip : ℕ) (xs : List ℕ) → with_bytes_at skip [] xs ≡ xs
unfolding with_bytes_at
nothing_put skip xs = let e : skip + 0 ≡ skip = omega arith in rw e (take-append-drop skip xs)

-- past the last segment nothing is left to write
pub ended : (xs : List (List ℕ)) (i skip : ℕ) (bs whole : List ℕ) → length xs ≤ i → IsTurn xs i skip bs whole → concat xs ≡ whole
ended xs i skip bs whole h t =
    let none = drop_all i xs h in
    let short = rw none at t.still_fits in
    let empty : bs ≡ [] = nil_from_length bs (omega (arith, short)) in
    sym (append-nil (concat xs)) ∙ rw (take_all i xs h, none, empty, nothing_put skip []) at t.joined

-- where nothing is left to write the segments are as they are to be
pub stopped : (xs : List (List ℕ)) (i skip : ℕ) (bs whole : List ℕ) → bs ≡ [] → IsTurn xs i skip bs whole → concat xs ≡ whole
stopped xs i skip bs whole e t =
    concat-split xs i ∙ ap (λ l. concat (take i xs) ++ l) (sym (nothing_put skip (concat (drop i xs)))) ∙ rw e at t.joined

-- bytes that are written past a first list are written over what follows it
past : (xs ys bs : List ℕ) (k at : ℕ) → length xs + k ≡ at → with_bytes_at at bs (xs ++ ys) ≡ xs ++ with_bytes_at k bs ys
unfolding with_bytes_at
past xs ys bs k at e =
    rw (take-append_past xs ys k at (omega (arith, e)), drop-append_past xs ys (k + length bs) (at + length bs) (omega (arith, e)))
    (append_assoc xs (take k ys) (bs ++ drop (k + length bs) ys))

-- a write begins at the segment in which its place lies
pub begun : (xs : List (List ℕ)) (i k at : ℕ) (bs : List ℕ) → length (concat (take i xs)) + k ≡ at →
    k + length bs ≤ length (concat (drop i xs)) → IsTurn xs i k bs (with_bytes_at at bs (concat xs))
begun xs i k at bs e fits = record {
  still_fits = fits;
  joined = sym (ap (with_bytes_at at bs) (concat-split xs i) ∙ past (concat (take i xs)) (concat (drop i xs)) bs k at e);
}

-- bytes that lie in one segment are written over all by writing over that one
pub one_written : (xs : List (List ℕ)) (i k at : ℕ) (bs : List ℕ) → i < length xs → length (concat (take i xs)) + k ≡ at → k + length bs ≤ length (get_or xs i [])
    → concat (set xs i (with_bytes_at k bs (get_or xs i []))) ≡ with_bytes_at at bs (concat xs)
one_written xs i k at bs h e fits =
    let s = get_or xs i [] in
    let whole = with_bytes_at at bs (concat xs) in
    let more : concat (drop i xs) ≡ s ++ concat (drop (i + 1) xs) = ap concat (drop_more xs i [] h) in
    let first = begun xs i k at bs e (omega (arith, fits, ap length more, length-append s (concat (drop (i + 1) xs)))) in
    let all : take (length bs) bs ≡ bs = take_all (length bs) bs (omega arith) in
    let none : drop (length bs) bs ≡ [] = drop_all (length bs) bs (omega arith) in
    let next = turn xs i k k (length bs) s bs whole h refl (omega (arith, fits)) (omega (arith, fits)) first in
    ap (λ l. concat (set xs i (with_bytes_at k l s))) (sym all)
    ∙ stopped (set xs i (with_bytes_at k (take (length bs) bs) s)) (i + 1) (k - k) (drop (length bs) bs) whole none next

-- the same of segments that are `ys` then, which are as long as they were
pub put_whole : (xs ys : List (List ℕ)) (i k at : ℕ) (bs : List ℕ) → i < length xs →
    length (concat (take i xs)) + k ≡ at → k + length bs ≤ length (get_or xs i []) →
    ys ≡ set xs i (with_bytes_at k bs (get_or xs i [])) →
    (concat ys ≡ with_bytes_at at bs (concat xs)) × (lengths_of ys ≡ lengths_of xs)
put_whole xs ys i k at bs h e whole put =
    let s = get_or xs i [] in (
      ap concat put ∙ one_written xs i k at bs h e whole,
      ap lengths_of put ∙ same_lengths xs i (with_bytes_at k bs s) (length-with_bytes_at k bs s whole) h,
    )

-- ---- segment i of those that a writer holds, whose bytes are `ys`

module _ (xs : List (Vec ℕ Global)) (ys : List (List ℕ)) (i : ℕ) (s : Vec ℕ Global) (seen : contents xs ≡ ys) (h : i < length ys) (is : s ≡ get_or xs i s) where
  -- it is there
  pub held_in : i < length xs
  held_in = omega (arith, h, ap length seen, length-map xs (λ (v : Vec ℕ Global). v.items))

  here : get_or ys i [] ≡ s.items
  here =
      ap (λ l. get_or l i []) (sym seen) ∙ get_or-map (λ (v : Vec ℕ Global). v.items) xs i s [] held_in
      ∙ ap (λ (v : Vec ℕ Global). v.items) (sym is)

  -- it is as long as its bytes
  pub held_len : length (get_or ys i []) ≡ s.len
  held_len = ap length here ∙ sym s.ok.0

  module _ (k : ℕ) (bs : List ℕ) (new : Vec ℕ Global) (put : new.items ≡ with_bytes_at k bs s.items) where
    -- written over, it is in place of itself
    pub held_put : contents (set xs i new) ≡ set ys i (with_bytes_at k bs (get_or ys i []))
    held_put =
        map-set (λ (v : Vec ℕ Global). v.items) xs i new
        ∙ ap (set (contents xs) i) (put ∙ ap (with_bytes_at k bs) (sym here))
        ∙ ap (λ l. set l i (with_bytes_at k bs (get_or ys i []))) seen

    -- and the totals are what they were
    pub held_totals : (totals : List ℕ) → k + length bs ≤ length (get_or ys i []) →
        totals ≡ totals_of (lengths_of (contents xs)) → totals ≡ totals_of (lengths_of (contents (set xs i new)))
    held_totals totals fits e =
        let y = with_bytes_at k bs (get_or ys i []) in
        e ∙ ap (λ l. totals_of (lengths_of l)) seen
        ∙ ap totals_of (sym (same_lengths ys i y (length-with_bytes_at k bs (get_or ys i []) fits) h))
        ∙ ap (λ l. totals_of (lengths_of l)) (sym held_put)
