-- How many pages are held.
use Rattle.std.proofs.Common.{◌≡◌, ◌≢◌, ◌≤◌, ◌<◌, ◌+◌, ◌-◌, ◌*◌, ◌/◌, ◌==◌, ◌||◌, ℕ, zero, suc, Bool, true, false, cond, List, [], ◌∷◌, length, nat_cmp, is_eq, Ordering, Less, Equal, Greater, refl, ap, arith}
use Rattle.std.specs.Ordering.{match_ordering}
use Rattle.std.specs.BTreeMap.{is_at}
use Rattle.std.specs.BTreeSet.{insert_key}
use Rattle.std.proofs.lemmas.Bool.{eqb-false, eqb-true}
use Rattle.fs_nodes.specs.Pages.{holds, with_page, with_pages, missing, reach}
use Rattle.fs_nodes.specs.Contents.{pages_over}
use Rattle.fs_nodes.proofs.HeldPages.{is_at_other}

-- one page more
length-insert_key : (ks : List ℕ) (n : ℕ) → holds ks n ≡ false
    → length (insert_key nat_cmp ks n) ≡ length ks + 1
length-insert_key [] n free = refl
length-insert_key (k ∷ ks) n free = by (nat_cmp n k) free (length-insert_key ks n)
  where
    by : (r : Ordering) → (is_eq r || holds ks n) ≡ false
        → (holds ks n ≡ false → length (insert_key nat_cmp ks n) ≡ length ks + 1)
        → length (match_ordering r (n ∷ k ∷ ks) (k ∷ ks) (k ∷ insert_key nat_cmp ks n))
        ≡ length (k ∷ ks) + 1
    by Less free more = omega arith
    by Equal free more = cc
    by Greater free more = omega (arith, more free)

length-with_page : (held : List ℕ) (n : ℕ)
    → length (with_page held n) ≡ length held + cond (holds held n) 0 1
length-with_page held n = by (holds held n) (length-insert_key held n)
  where
    by : (t : Bool) → (t ≡ false → length (insert_key nat_cmp held n) ≡ length held + 1)
        → length (cond t held (insert_key nat_cmp held n)) ≡ length held + cond t 0 1
    by true more = omega arith
    by false more = more refl

-- and the others are held as they were
pub holds_inserted : (ks : List ℕ) (n m : ℕ) → m ≢ n → holds (insert_key nat_cmp ks n) m ≡ holds ks m
holds_inserted [] n m apart = ap (λ t. t || false) (is_at_other m n apart)
holds_inserted (k ∷ ks) n m apart = by (nat_cmp n k) (holds_inserted ks n m apart)
  where
    by : (r : Ordering) → holds (insert_key nat_cmp ks n) m ≡ holds ks m
        → holds (match_ordering r (n ∷ k ∷ ks) (k ∷ ks) (k ∷ insert_key nat_cmp ks n)) m
        ≡ holds (k ∷ ks) m
    by Less more = ap (λ t. t || holds (k ∷ ks) m) (is_at_other m n apart)
    by Equal more = refl
    by Greater more = ap (λ t. is_at (nat_cmp m) k || t) more

holds_other : (held : List ℕ) (n m : ℕ) → m ≢ n → holds (with_page held n) m ≡ holds held m
holds_other held n m apart = by (holds held n)
  where
    by : (t : Bool) → holds (cond t held (insert_key nat_cmp held n)) m ≡ holds held m
    by true = refl
    by false = holds_inserted held n m apart

missing_other : (held : List ℕ) (n from count : ℕ) → n < from
    → missing (with_page held n) from count ≡ missing held from count
missing_other held n from zero following = refl
missing_other held n from (suc k) following =
    let here = ap (λ t. cond {A = ℕ} t 0 1) (holds_other held n from (omega arith)) in
    omega (arith, here, missing_other held n (from + 1) k (omega arith))

-- of that many pages those are added that are missing
pub length-with_pages : (held : List ℕ) (n count : ℕ)
    → length (with_pages held n count) ≡ length held + missing held n count
length-with_pages held n zero = omega arith
length-with_pages held n (suc k) =
    omega (
      arith,
      length-with_pages (with_page held n) (n + 1) k,
      length-with_page held n,
      missing_other held n (n + 1) k (omega arith),
    )

-- the first that can't be held is none before the first
pub reach_from : (held : List ℕ) (free n count : ℕ) → n ≤ reach held free n count
reach_from held free n zero = omega arith
reach_from held free n (suc k) =
    by (holds held n) (free == 0)
    (reach_from held free (n + 1) k) (reach_from held (free - 1) (n + 1) k)
  where
    by : (there none : Bool) → n + 1 ≤ reach held free (n + 1) k
        → n + 1 ≤ reach held (free - 1) (n + 1) k
        → n ≤ cond there (reach held free (n + 1) k)
        (cond none n (reach held (free - 1) (n + 1) k))
    by true none same fewer = omega (arith, same)
    by false true same fewer = omega arith
    by false false same fewer = omega (arith, fewer)

-- where all can be held it is the one after them
pub reach_all : (held : List ℕ) (free n count : ℕ) → count ≤ free
    → reach held free n count ≡ n + count
reach_all held free n zero room = omega arith
reach_all held free n (suc k) room =
    by (holds held n) (free == 0) refl (reach_all held free (n + 1) k (omega arith))
    (λ more. reach_all held (free - 1) (n + 1) k more)
  where
    by : (there none : Bool) → (free == 0) ≡ none → reach held free (n + 1) k ≡ n + 1 + k
        → (k ≤ free - 1 → reach held (free - 1) (n + 1) k ≡ n + 1 + k)
        → cond there (reach held free (n + 1) k)
        (cond none n (reach held (free - 1) (n + 1) k)) ≡ n + suc k
    by true none is same fewer = omega (arith, same)
    by false true is same fewer = absurd (omega (arith, eqb-true free 0 is))
    by false false is same fewer = omega (arith, fewer (omega arith))

-- up to the first that can't be held no more are missing than can be
missing_within : (held : List ℕ) (free n count some : ℕ) → n + some ≤ reach held free n count
    → missing held n some ≤ free
missing_within held free n count zero within = omega arith
missing_within held free n zero (suc j) within = absurd (omega arith)
missing_within held free n (suc k) (suc j) within =
    by (holds held n) (free == 0) refl within
    (missing_within held free (n + 1) k j) (missing_within held (free - 1) (n + 1) k j)
  where
    by : (there none : Bool) → (free == 0) ≡ none
        → n + suc j ≤ cond there (reach held free (n + 1) k)
        (cond none n (reach held (free - 1) (n + 1) k))
        → (n + 1 + j ≤ reach held free (n + 1) k → missing held (n + 1) j ≤ free)
        → (n + 1 + j ≤ reach held (free - 1) (n + 1) k → missing held (n + 1) j ≤ free - 1)
        → cond there 0 1 + missing held (n + 1) j ≤ free
    by true none is within same fewer = omega (arith, same (omega arith))
    by false true is within same fewer = absurd (omega arith)
    by false false is within same fewer =
        let some : free ≢ 0 = eqb-false free 0 is in
        omega (arith, fewer (omega arith), some)

-- so bytes that end within it take no more pages than can be held
pub held_within : (held : List ℕ) (off len free size : ℕ)
    → off + len ≤ 4096 * reach held free (off / 4096) (pages_over off size)
    → length (with_pages held (off / 4096) (pages_over off len)) ≤ length held + free
held_within held off len free size within =
    let first : ℕ = off / 4096 in
    omega (
      arith,
      length-with_pages held first (pages_over off len),
      missing_within held free first (pages_over off size) (pages_over off len) (omega arith),
    )
