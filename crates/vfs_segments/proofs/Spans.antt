-- Bytes that lie in segments from one place to another.
use Rattle.std.proofs.Common.{◌≡◌, ℕ, ◌+◌, ◌-◌, ◌<◌, ◌≤◌, List, [], ◌++◌, length, take, drop, get_or, ap, arith, ◌∙◌, length-append, length-drop, length-take}
use Rattle.std.specs.List.{concat}
use Rattle.vfs_segments.proofs.Flat.{length-concat-drop_more, length-concat-split}
use Rattle.vfs_segments.specs.Views.{IsSpan, room}
use Rattle.vfs_segments.specs.SpanLaws.{whole-room}

-- n bytes from place `at` on begin `skip` bytes into the segment `first`, and the last of them is
-- `inside` bytes into the segment `last`
pub record IsFound (xs : List (List ℕ)) (at n first skip last inside : ℕ) : Type 0 where
  pub some : 0 < n
  pub order : first ≤ last
  pub last_in : last < length xs
  pub begins : length (concat (take first xs)) + skip ≡ at
  pub skip_in : skip < length (get_or xs first [])
  pub ends : length (concat (take last xs)) + inside ≡ at + (n - 1)
  pub inside_in : inside < length (get_or xs last [])

module _ (xs : List (List ℕ)) (at n first skip last inside : ℕ) (found : IsFound xs at n first skip last inside) where
  abbrev count : ℕ
  count = last - first + 1

  last_is : first + count - 1 ≡ last
  last_is = omega (arith, found.order)

  following : first + count ≡ last + 1
  following = omega (arith, found.order)

  within : first + count ≤ length xs
  within = omega (arith, found.last_in, found.order)

  ordered : count ≡ 1 → skip ≤ inside + 1
  ordered e =
      let same : last ≡ first = omega (arith, found.order) in
      omega (arith, found.begins, found.ends, ap (λ k. length (concat (take k xs))) same)

  -- as many bytes come before them
  pub place_is : length (room first count skip (inside + 1) xs).before ≡ at
  place_is = length-append (concat (take first xs)) (take skip (get_or xs first []))
      ∙ omega (arith, length-take skip (get_or xs first []), found.begins, found.skip_in)

  total_is : n ≡ length (concat (room first count skip (inside + 1) xs).pieces)
  total_is =
      let r = room first count skip (inside + 1) xs in
      let all = ap length (whole-room first count skip (inside + 1) xs (omega arith) within ordered) in
      let rest : length r.rest ≡ length (get_or xs last []) - (inside + 1) =
      length-drop (inside + 1) (get_or xs (first + count - 1) [])
      ∙ ap (λ k. length (get_or xs k []) - (inside + 1)) last_is in
      let after : length r.after ≡ length (concat (drop (last + 1) xs)) = ap (λ k. length (concat (drop k xs))) following in
      omega (arith, all, length-append r.before (concat r.pieces ++ (r.rest ++ r.after)), length-append (concat r.pieces) (r.rest ++ r.after), length-append r.rest r.after, place_is, rest, after, length-concat-split xs last, length-concat-drop_more xs last found.last_in, found.some, found.ends, found.inside_in)

  -- they are a span
  pub span_is : IsSpan (record { first = first; count = count; skip = skip; end = inside + 1; total = n }) xs
  span_is = record {
    some = omega arith;
    within = within;
    skip_in = omega (arith, found.skip_in);
    end_in = omega (arith, found.inside_in, ap (λ k. length (get_or xs k [])) last_is);
    ordered = ordered;
    total = total_is;
  }
