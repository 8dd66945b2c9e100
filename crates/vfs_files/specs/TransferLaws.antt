-- What is known of every transfer, for those who begin one: a file system, and callers of the two
-- traits.
use Rattle.std.proofs.Common.{◌≡◌, ◌≤◌, ◌<◌, ◌+◌, ◌-◌, ◌^◌, ℕ, List, [], ◌∷◌, length, min, Option, Result, Ok, Err, IfOk, arith, refl, sym, ap, ◌∙◌, length-append}
use Rattle.std.proofs.lemmas.List.Sums.{sum_by-cons}
use Rattle.vfs_files.specs.Answers.{Counts}
use Rattle.vfs_files.specs.Transfers.{Ending, Finished, Stuck, Broken, Past, last_bytes, outcome, bytes_moved, count_moved, CallsFile, Goes, EndsBy, Transfers}

-- an equation of two answers
abbrev Same : Result ℕ (Option ℕ) → Result ℕ (Option ℕ) → Type 0
Same a b = a ≡ b

-- a number is told where the ending isn't a fault, and then the last call moved nothing
told :
    (moved n : ℕ) (ending : Ending) → Same (outcome moved ending) (Ok n)
    → (n ≡ moved) × (length (last_bytes ending) ≡ 0)
told moved n Finished e = let same : n ≡ moved = cc in (same, refl)
told moved n Stuck e = let same : n ≡ moved = cc in (same, refl)
told moved n (Broken fault) e = cc
told moved n (Past part) e = cc

module _ {F : Type 0}
    (calls : ℕ → F → ℕ → ℕ → Result (List ℕ) (Option ℕ) → F → Type 0) (count left off : ℕ) where
  -- the bytes of calls in a row are as many as they moved, and no more than were to be moved
  pub goes_within :
      (moved : ℕ) (old : F) (row : List (List ℕ × F)) (new : F) → moved ≤ min count left
      → Goes calls count left off moved old row new
      → (length (bytes_moved row) ≡ count_moved row) × (moved + count_moved row ≤ min count left)
  goes_within moved old [] new small g = (refl, omega arith)
  goes_within moved old (c ∷ cs) new small g =
      let within = g.0.within in
      let rest = goes_within (moved + length c.0) c.1 cs new (omega arith) g.2 in
      let sum : count_moved (c ∷ cs) ≡ length c.0 + count_moved cs =
      sum_by-cons (λ (x : List ℕ × F). length x.0) c cs in
      (length-append c.0 (bytes_moved cs) ∙ omega (arith, sum, rest.0), omega (arith, sum, rest.1))

  last_within :
      (moved : ℕ) (old : F) (ending : Ending) (new : F)
      → EndsBy calls count left off moved old ending new
      → length (last_bytes ending) ≤ min count left - moved
  last_within moved old Finished new h = omega arith
  last_within moved old Stuck new h = omega arith
  last_within moved old (Broken fault) new h = omega arith
  last_within moved old (Past part) new h = h.0.within

  -- a transfer moves no more bytes than its count and than are left, after a fault too
  pub transfer_within :
      (old : F) (bytes : List ℕ) (result : Result ℕ (Option ℕ)) (new : F)
      → Transfers calls count left off old bytes result new → length bytes ≤ min count left
  transfer_within old bytes result new t =
      let g = goes_within 0 old t.row t.middle (omega arith) t.goes in
      let l = last_within (count_moved t.row) t.middle t.ending new t.ends in
      let long = ap length t.bytes_are ∙ length-append (bytes_moved t.row) (last_bytes t.ending) in
      omega (arith, g.0, g.1, l, long)

  -- where it answers a number, that many bytes were moved
  transfer_told :
      (old : F) (bytes : List ℕ) (n : ℕ) (new : F)
      → Transfers calls count left off old bytes (Ok n) new → n ≡ length bytes
  transfer_told old bytes n new t =
      let g = goes_within 0 old t.row t.middle (omega arith) t.goes in
      let k = told (count_moved t.row) n t.ending (sym t.answered) in
      let long = ap length t.bytes_are ∙ length-append (bytes_moved t.row) (last_bytes t.ending) in
      omega (arith, g.0, k.0, k.1, long)

  -- a number that it answers is that of the bytes that were moved, and at most the count
  pub transfer_tells :
      (old : F) (bytes : List ℕ) (result : Result ℕ (Option ℕ)) (new : F)
      → Transfers calls count left off old bytes result new
      → IfOk result (λ n. (n ≡ length bytes) × (n ≤ count))
  transfer_tells old bytes (Ok n) new t =
      let n_is = transfer_told old bytes n new t in
      (n_is, omega (arith, n_is, transfer_within old bytes (Ok n) new t))
  transfer_tells old bytes (Err fault) new t = tt

  goes_below :
      (moved : ℕ) (old : F) (row : List (List ℕ × F)) (new : F) → off + moved < 2 ^ 64
      → Goes calls count left off moved old row new → off + moved + count_moved row < 2 ^ 64
  goes_below moved old [] new below g = omega arith
  goes_below moved old (c ∷ cs) new below g =
      let rest = goes_below (moved + length c.0) c.1 cs new (omega (arith, g.1)) g.2 in
      let sum : count_moved (c ∷ cs) ≡ length c.0 + count_moved cs =
      sum_by-cons (λ (x : List ℕ × F). length x.0) c cs in
      omega (arith, rest, sum)

  -- where it answers a number, the position after what was moved is below 2 ^ 64
  pub transfer_below :
      (old : F) (bytes : List ℕ) (result : Result ℕ (Option ℕ)) (new : F) → off < 2 ^ 64
      → Transfers calls count left off old bytes result new
      → IfOk result (λ n. off + n < 2 ^ 64)
  transfer_below old bytes (Ok n) new low t =
      let k = told (count_moved t.row) n t.ending (sym t.answered) in
      omega (arith, goes_below 0 old t.row t.middle (omega arith) t.goes, k.0)
  transfer_below old bytes (Err fault) new low t = tt

  row_of_nothing :
      (old : F) (row : List (List ℕ × F)) (new : F) → min count left ≡ 0
      → Goes calls count left off 0 old row new → (row ≡ []) × (new ≡ old)
  row_of_nothing old [] new none g = (refl, g)
  row_of_nothing old (c ∷ cs) new none g =
      let some = g.0.some in
      let within = g.0.within in
      absurd (omega arith)

  end_of_nothing :
      (old : F) (ending : Ending) (new : F) → min count left ≡ 0
      → EndsBy calls count left off 0 old ending new → (ending ≡ Finished) × (new ≡ old)
  end_of_nothing old Finished new none h = (refl, h.1)
  end_of_nothing old Stuck new none h = let some = h.0 in absurd (omega arith)
  end_of_nothing old (Broken fault) new none h = let some = h.0 in absurd (omega arith)
  end_of_nothing old (Past part) new none h =
      let some = h.0.some in
      let within = h.0.within in
      absurd (omega arith)

  -- where nothing is to be moved, no call is made and 0 is answered
  pub transfer_of_nothing :
      (old : F) (bytes : List ℕ) (result : Result ℕ (Option ℕ)) (new : F) → min count left ≡ 0
      → Transfers calls count left off old bytes result new → (result ≡ Ok 0) × (new ≡ old)
  transfer_of_nothing old bytes result new none t =
      let r = row_of_nothing old t.row t.middle none t.goes in
      let e = end_of_nothing t.middle t.ending new none (rw (r.0) at t.ends) in
      (rw (r.0, e.0) at t.answered, e.1 ∙ r.1)

  ends_short :
      (moved n : ℕ) (old : F) (ending : Ending) (new : F) → Same (Ok n) (outcome moved ending)
      → n < min count left → EndsBy calls count left off moved old ending new
      → CallsFile calls count left off n old (Ok []) new
  ends_short moved n old Finished new e short h =
      let same : n ≡ moved = cc in
      absurd (omega (arith, h.0))
  ends_short moved n old Stuck new e short h = let same : n ≡ moved = cc in rw same h
  ends_short moved n old (Broken fault) new e short h = cc
  ends_short moved n old (Past part) new e short h = cc

  -- where fewer bytes are told than the count and than are left, the last call moved none
  pub transfer_short :
      (old : F) (bytes : List ℕ) (n : ℕ) (new : F) → n < min count left
      → Transfers calls count left off old bytes (Ok n) new
      → (last : F) × CallsFile calls count left off n last (Ok []) new
  transfer_short old bytes n new short t =
      (t.middle, ends_short (count_moved t.row) n t.middle t.ending new t.answered short t.ends)

  counts :
      (size : ℕ) (old : F) (bytes : List ℕ) (result : Result ℕ (Option ℕ)) (new : F)
      → count ≤ size → count < 2 ^ 32 - 16
      → Transfers calls count left off old bytes result new → Counts result bytes size
  counts size old bytes (Ok n) new small fits t =
      let n_is = transfer_told old bytes n new t in
      let within = transfer_within old bytes (Ok n) new t in
      (n_is, omega (arith, n_is, within), omega (arith, within))
  counts size old bytes (Err fault) new small fits t = tt

-- a `read` that is one transfer, of no more than `size` bytes and no more than a reply can count,
-- keeps its clause on what it answers
pub transfer_counts :
    {F : Type 0} (calls : ℕ → F → ℕ → ℕ → Result (List ℕ) (Option ℕ) → F → Type 0)
    (count left off size : ℕ) (old : F) (bytes : List ℕ) (result : Result ℕ (Option ℕ)) (new : F)
    → count ≤ size → count < 2 ^ 32 - 16
    → Transfers calls count left off old bytes result new → Counts result bytes size
transfer_counts calls count left off size old bytes result new small fits t =
    counts calls count left off size old bytes result new small fits t
