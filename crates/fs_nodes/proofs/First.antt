-- The first page from one on.
use Rattle.std.proofs.Common.{◌≡◌, ◌<◌, ◌&&◌, ℕ, Bool, true, false, if◌then◌else◌, nat_le, is_some, IsSome, is_lt, List, filter, [], ◌∷◌, Option, Some, None, MatchOption, nat_cmp, Ordering, Less, Equal, Greater, refl, sym, ap, ◌∙◌, ⊎_elim, ◌≤◌, arith, Vec}
use Rattle.std.specs.List.{find}
use Rattle.std.specs.Ordering.{is_le, MatchOrdering}
use Rattle.std.specs.BTreeMap.{is_at}
use Rattle.std.specs.Cmp.{nat_cmp_is, ranks}
use Rattle.std.specs.Map.{keys_of, lookup}
use Rattle.std.specs.declared.alloc.Global.{Global}
use Rattle.std.specs.declared.ops.Bound.TheVariants.{Included, Unbounded}
use Rattle.std.specs.BTreeMap.Range.{entries_between}
use Rattle.std.proofs.lemmas.Bool.{both_ways, cases_lt, false_from_ne_true, le-leb, lt-leb, or_cases, or_left, or_right}
use Rattle.std.proofs.lemmas.List.Elements.{filter_agree}
use Rattle.fs_nodes.specs.Pages.{Pages, first_from, holds}
use Rattle.fs_nodes.proofs.HeldPages.{at_itself, found-any, is_at_same}

-- the first of some pages
abbrev pub IsFirst : Pages → Option ℕ → Type 0
IsFirst given r = MatchOption r (given ≡ [])
    (λ n. (page : Vec ℕ Global) × (rest : Pages) × (given ≡ (n, page) ∷ rest))

from_le : (a b : ℕ) → (is_le (nat_cmp a b) && true) ≡ nat_le a b
from_le a b = by (nat_cmp a b) (ranks a b)
  where
    by : (r : Ordering) → MatchOrdering r (a < b) (a ≡ b) (b < a) → (is_le r && true) ≡ nat_le a b
    by Less is = sym (le-leb a b (omega (arith, is)))
    by Equal is = sym (le-leb a b (omega (arith, is)))
    by Greater is = sym (lt-leb a b is)

first_passing : (p : ℕ → Bool) (es : Pages) (r : Option ℕ) → IsFirst (filter (λ e. p e.0) es) r
    → r ≡ find p (keys_of es)
first_passing p [] None first = refl
first_passing p [] (Some n) first = cc (first.2)
first_passing p (e ∷ es) r first = by (p e.0) r first (first_passing p es r)
  where
    by : (t : Bool) (r : Option ℕ)
        → IsFirst (if t then e ∷ filter (λ e. p e.0) es else filter (λ e. p e.0) es) r
        → (IsFirst (filter (λ e. p e.0) es) r → r ≡ find p (keys_of es))
        → r ≡ (if t then Some e.0 else find p (keys_of es))
    by true None first more = cc first
    by true (Some n) first more =
        let same = first.2 in
        cc same
    by false r first more = more first

pub first_is : (es given : Pages) (n : ℕ) (r : Option ℕ)
    → given ≡ entries_between nat_cmp (Included n) Unbounded es → IsFirst given r
    → r ≡ first_from (keys_of es) n
first_is es given n r is first =
    let all : given ≡ filter (λ e. nat_le n e.0) es =
    is ∙ filter_agree (λ e. is_le (nat_cmp n e.0) && true) (λ e. nat_le n e.0) (λ e. from_le n e.0) es in
    first_passing (nat_le n) es r (rw all at first)

-- ---- whether there is one

found : (p : ℕ → Bool) (ks : List ℕ) (n : ℕ) → holds ks n ≡ true → p n ≡ true
    → is_some (find p ks) ≡ true
found p [] n there passes = cc
found p (k ∷ ks) n there passes = by (p k) refl (found p ks n)
  where
    by : (t : Bool) → p k ≡ t → (holds ks n ≡ true → p n ≡ true → is_some (find p ks) ≡ true)
        → is_some (if t then Some k else find p ks) ≡ true
    by true is later = refl
    by false is later =
        ⊎_elim
        (λ (here : is_at (nat_cmp n) k ≡ true).
        absurd (both_ways (p n) (ap p (is_at_same n k here) ∙ is) passes))
        (λ (following : holds ks n ≡ true). later following passes)
        (or_cases (is_at (nat_cmp n) k) (holds ks n) there)

not_found : (p : ℕ → Bool) (ks : List ℕ) → ((n : ℕ) → holds ks n ≡ true → p n ≡ false)
    → is_some (find p ks) ≡ false
not_found p [] none = refl
not_found p (k ∷ ks) none =
    by (p k) (none k (or_left (is_at (nat_cmp k) k) (holds ks k) (at_itself k)))
    (not_found p ks (λ n there. none n (or_right (is_at (nat_cmp n) k) (holds ks n) there)))
  where
    by : (t : Bool) → t ≡ false → is_some (find p ks) ≡ false
        → is_some (if t then Some k else find p ks) ≡ false
    by true is rest = cc
    by false is rest = rest

-- there is one where the last page is not before it
pub some_from : (es : Pages) (last page : ℕ) → IsSome (lookup (is_at (nat_cmp last)) es)
    → ((q : ℕ) → IsSome (lookup (is_at (nat_cmp q)) es) → is_lt (nat_cmp last q) ≡ false)
    → nat_le page last ≡ is_some (first_from (keys_of es) page)
some_from es last page there most =
    ⊎_elim
    (λ (below : last < page).
    lt-leb page last below
    ∙ sym (not_found (nat_le page) (keys_of es) (λ q held.
    lt-leb page q
    (⊎_elim
    (λ (following : last < q).
    absurd (both_ways (is_lt (nat_cmp last q)) (most q (found-any (is_at (nat_cmp q)) es ∙ held))
    (ap is_lt (sym (nat_cmp_is last q Less following)))))
    (λ (before : q ≤ last). let less : q < page = omega arith in less)
    (cases_lt last q)))))
    (λ (from : page ≤ last).
    le-leb page last from
    ∙ sym (found (nat_le page) (keys_of es) last
    (sym (found-any (is_at (nat_cmp last)) es) ∙ there) (le-leb page last from)))
    (cases_lt last page)

-- and where there is none no page is held from there on
pub none_from : (ks : List ℕ) (page q : ℕ) → is_some (first_from ks page) ≡ false → page ≤ q
    → holds ks q ≡ false
none_from ks page q none from =
    false_from_ne_true (holds ks q) (λ there.
    both_ways (is_some (first_from ks page)) none (found (nat_le page) ks q there (le-leb page q from)))
