-- The bytes from a place on, seen from the segment in which it lies.
use Rattle.std.proofs.Common.{◌≡◌, ℕ, ◌+◌, ◌<◌, ◌≤◌, List, [], length, take, drop, get_or, ap, ◌∙◌, arith, ⊎_elim, length-append, length-drop}
use Rattle.std.proofs.lemmas.Bool.{cases_lt}
use Rattle.std.proofs.lemmas.List.{drop-append-le, drop_more, take-append-le, take_all}
use Rattle.std.specs.List.{concat}
use Rattle.vfs_segments.proofs.Puts.{drop-append_past}
use Rattle.vfs_segments.proofs.Flat.{concat-split}

-- a place before the end lies in a segment
pub is_listed : (xs : List (List ℕ)) (i skip at : ℕ) → length (concat (take i xs)) + skip ≡ at →
    at < length (concat xs) → i < length xs
is_listed xs i skip at e h =
    ⊎_elim (λ (p : i < length xs). p)
    (λ (p : length xs ≤ i). absurd (omega (arith, e, h, ap (λ (l : List (List ℕ)). length (concat l)) (take_all i xs p))))
    (cases_lt i (length xs))

-- a place that lies `skip` bytes into segment i
module _ (xs : List (List ℕ)) (i skip at : ℕ) (place : length (concat (take i xs)) + skip ≡ at) where
  -- the bytes after it
  pub from_place : drop at (concat xs) ≡ drop skip (concat (drop i xs))
  from_place =
      ap (drop at) (concat-split xs i)
      ∙ drop-append_past (concat (take i xs)) (concat (drop i xs)) skip at (omega (arith, place))

  -- how many they are
  pub fits_from : (n : ℕ) → at + n ≤ length (concat xs) → skip + n ≤ length (concat (drop i xs))
  fits_from n h =
      omega (arith, place, ap length (concat-split xs i), length-append (concat (take i xs)) (concat (drop i xs)))

  -- those of them that the segment has
  pub in_segment : (n : ℕ) → i < length xs → skip + n ≤ length (get_or xs i []) →
      take n (drop at (concat xs)) ≡ take n (drop skip (get_or xs i []))
  in_segment n h fits =
      let s = get_or xs i [] in
      let rest = concat (drop (i + 1) xs) in
      ap (λ l. take n (drop at l)) (concat-split xs i)
      ∙ ap (take n) (drop-append_past (concat (take i xs)) (concat (drop i xs)) skip at (omega (arith, place)))
      ∙ ap (λ (l : List (List ℕ)). take n (drop skip (concat l))) (drop_more xs i [] h)
      ∙ ap (take n) (drop-append-le skip s rest (omega arith))
      ∙ take-append-le n (drop skip s) rest (omega (arith, length-drop skip s))

  -- as many as the segment has lie in all of them
  pub one_fits : (n : ℕ) → i < length xs → skip + n ≤ length (get_or xs i []) → at + n ≤ length (concat xs)
  one_fits n h fits =
      let more = ap (λ (l : List (List ℕ)). length (concat l)) (drop_more xs i [] h) in
      omega (arith, place, fits, more, length-append (get_or xs i []) (concat (drop (i + 1) xs)), ap length (concat-split xs i), length-append (concat (take i xs)) (concat (drop i xs)))
