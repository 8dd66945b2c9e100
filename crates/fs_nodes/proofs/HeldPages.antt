-- Pages by their numbers: what is found where some were added, changed or let go.
use Rattle.std.proofs.Common.{◌≡◌, ◌≢◌, ◌+◌, ◌-◌, ◌/◌, ◌%◌, ◌<◌, ◌≤◌, ℕ, zero, suc, Bool, true, false, cond, ◌||◌, ◌&&◌, ◌==◌, List, [], ◌∷◌, ◌++◌, length, take, drop, filter, nat_le, nat_lt, replicate, length-take, length-append, get_or, Option, Some, None, is_some, IsSome, IfSome, is_lt, nat_cmp, is_eq, Ordering, Less, Equal, Greater, refl, sym, ap, ◌∙◌, ⊎_elim, arith, Vec}
use Rattle.std.specs.List.{list_any}
use Rattle.std.specs.Ordering.{match_ordering}
use Rattle.std.specs.Cmp.{nat_cmp_is}
use Rattle.std.specs.Map.{lookup, keys_of, remove_entry}
use Rattle.std.specs.BTreeMap.{insert_entry, is_at}
use Rattle.std.specs.BTreeSet.{insert_key}
use Rattle.std.specs.declared.alloc.Global.{Global}
use Rattle.std.proofs.lemmas.Bool.{cases_Bool, cases_eq, cases_lt, cond-true, cond-false, both_ways, ltb-false, or_cases, or_left, or_right, and_from, and_left, and_right, le-leb, lt-leb, le-ltb, lt-ltb}
use Rattle.std.proofs.lemmas.Option.{none-some}
use Rattle.std.proofs.lemmas.Map.Entries.{lookup-filter-keys}
use Rattle.std.proofs.lemmas.Cmp.{nat_cmp_total, tied_itself}
use Rattle.std.proofs.lemmas.List.{get_or_append_left, get_or-append_right, get_or-take, get_or-drop, get_or_past, length-replicate}
use Rattle.std.proofs.lemmas.Map.Lookups.{exact_unsigned}
use Rattle.fs_nodes.specs.Pages.{Pages, IsPage, ArePages, bytes_in, page_at, byte_at, byte_over, holds, with_page, with_pages, missing, reach, undone}

-- ---- numbers as keys

not_equal : (n m : ℕ) → n ≢ m → (r : Ordering) → nat_cmp n m ≡ r → is_eq r ≡ false
not_equal n m apart Less is = refl
not_equal n m apart Equal is = absurd (apart (exact_unsigned n m is))
not_equal n m apart Greater is = refl

pub is_at_other : (n m : ℕ) → n ≢ m → is_at (nat_cmp n) m ≡ false
is_at_other n m apart = not_equal n m apart (nat_cmp n m) refl

equal : (n m : ℕ) (r : Ordering) → nat_cmp n m ≡ r → is_eq r ≡ true → n ≡ m
equal n m Less is e = cc
equal n m Equal is e = exact_unsigned n m is
equal n m Greater is e = cc

pub is_at_same : (n m : ℕ) → is_at (nat_cmp n) m ≡ true → n ≡ m
is_at_same n m e = equal n m (nat_cmp n m) refl e

pub at_itself : (n : ℕ) → is_at (nat_cmp n) n ≡ true
at_itself n = ap is_eq (tied_itself nat_cmp_total n)

-- ---- which are held

module _ {X : Type 0} where
  -- a key is among the keys where it is found
  pub found-any : (test : ℕ → Bool) (es : List (ℕ × X))
      → is_some (lookup test es) ≡ list_any test (keys_of es)
  found-any test [] = refl
  found-any test (e ∷ es) = by (test e.0) (found-any test es)
    where
      by : (t : Bool) → is_some (lookup test es) ≡ list_any test (keys_of es)
          → is_some (cond t (Some e.1) (lookup test es)) ≡ (t || list_any test (keys_of es))
      by true later = refl
      by false later = later

  pub held_found : (es : List (ℕ × X)) (n : ℕ) (o : Option X)
      → lookup (is_at (nat_cmp n)) es ≡ o → holds (keys_of es) n ≡ is_some o
  held_found es n o is = sym (found-any (is_at (nat_cmp n)) es) ∙ ap is_some is

  none_found : (o : Option X) → is_some o ≡ false → o ≡ None
  none_found None none = refl
  none_found (Some x) none = cc

  -- what is not held is not found
  pub lookup_free : (es : List (ℕ × X)) (n : ℕ) → holds (keys_of es) n ≡ false
      → lookup (is_at (nat_cmp n)) es ≡ None
  lookup_free es n free =
      none_found (lookup (is_at (nat_cmp n)) es) (found-any (is_at (nat_cmp n)) es ∙ free)

  pub keys-insert_entry : (es : List (ℕ × X)) (n : ℕ) (v : X)
      → keys_of (insert_entry nat_cmp es n v) ≡ insert_key nat_cmp (keys_of es) n
  keys-insert_entry [] n v = refl
  keys-insert_entry (e ∷ es) n v = by (nat_cmp n e.0) (keys-insert_entry es n v)
    where
      by : (r : Ordering)
          → keys_of (insert_entry nat_cmp es n v) ≡ insert_key nat_cmp (keys_of es) n
          → keys_of
          (match_ordering r ((n, v) ∷ e ∷ es) ((e.0, v) ∷ es) (e ∷ insert_entry nat_cmp es n v))
          ≡ match_ordering r (n ∷ e.0 ∷ keys_of es) (e.0 ∷ keys_of es)
          (e.0 ∷ insert_key nat_cmp (keys_of es) n)
      by Less later = refl
      by Equal later = refl
      by Greater later = ap (λ (l : List ℕ). e.0 ∷ l) later

  -- what was added is taken out again
  pub remove-insert : (es : List (ℕ × X)) (n : ℕ) (v : X)
      → lookup (is_at (nat_cmp n)) es ≡ None
      → remove_entry (is_at (nat_cmp n)) (insert_entry nat_cmp es n v) ≡ es
  remove-insert [] n v new = rw (at_itself n)
  remove-insert (e ∷ es) n v new = by (nat_cmp n e.0) refl new (remove-insert es n v)
    where
      by : (r : Ordering) → nat_cmp n e.0 ≡ r
          → cond (is_eq r) (Some e.1) (lookup (is_at (nat_cmp n)) es) ≡ None
          → (lookup (is_at (nat_cmp n)) es ≡ None
          → remove_entry (is_at (nat_cmp n)) (insert_entry nat_cmp es n v) ≡ es)
          → remove_entry (is_at (nat_cmp n))
          (match_ordering r ((n, v) ∷ e ∷ es) ((e.0, v) ∷ es) (e ∷ insert_entry nat_cmp es n v))
          ≡ e ∷ es
      by Less is new later = rw (at_itself n)
      by Equal is new later = cc
      by Greater is new later = rw is (ap (λ l. e ∷ l) (later new))

-- ---- bytes

zero_at : (n i z : ℕ) → get_or (replicate n z) i z ≡ z
zero_at zero i z = refl
zero_at (suc n) zero z = refl
zero_at (suc n) (suc i) z = zero_at n i z

-- zeros are 0 wherever they are read
pub zeros_at : (xs : List ℕ) (count i : ℕ) → xs ≡ replicate count 0 → get_or xs i 0 ≡ 0
zeros_at xs count i is = ap (λ (l : List ℕ). get_or l i 0) is ∙ zero_at count i 0

-- a page of zeros that is added changes no byte
pub bytes_added : (old new : Pages) (page : ℕ) (v : Vec ℕ Global) (count : ℕ)
    → lookup (is_at (nat_cmp page)) old ≡ None
    → lookup (is_at (nat_cmp page)) new ≡ Some v
    → ((q : ℕ) → is_at (nat_cmp page) q ≡ false
    → lookup (is_at (nat_cmp q)) new ≡ lookup (is_at (nat_cmp q)) old)
    → v.items ≡ replicate count 0
    → (place : ℕ) → byte_at new place ≡ byte_at old place
unfolding byte_at
bytes_added old new page v count none some others zeros place =
    ⊎_elim
    (λ (here : page ≡ place / 4096).
    ap (λ n. get_or (page_at new n) (place % 4096) 0) (sym here)
    ∙ ap (λ o. get_or (bytes_in o) (place % 4096) 0) some
    ∙ zeros_at v.items count (place % 4096) zeros
    ∙ sym (ap (λ o. get_or (bytes_in o) (place % 4096) 0) none)
    ∙ ap (λ n. get_or (page_at old n) (place % 4096) 0) here)
    (λ (apart : page ≡ place / 4096 → ⊥).
    ap (λ o. get_or (bytes_in o) (place % 4096) 0)
    (others (place / 4096) (is_at_other page (place / 4096) apart)))
    (cases_eq page (place / 4096))

-- ---- bytes that are written over others

module _ (at : ℕ) (bs : List ℕ) (old : ℕ → ℕ) (k : ℕ) where
  pub over_in : at ≤ k → k < at + length bs → byte_over at bs old k ≡ get_or bs (k - at) 0
  over_in from to =
      cond-true (nat_le at k && nat_lt k (at + length bs)) (get_or bs (k - at) 0) (old k)
      (and_from (nat_le at k) (nat_lt k (at + length bs)) (le-leb at k from)
      (lt-ltb k (at + length bs) to))

  pub over_before : k < at → byte_over at bs old k ≡ old k
  over_before before =
      cond-false (nat_le at k && nat_lt k (at + length bs)) (get_or bs (k - at) 0) (old k)
      (and_left (nat_le at k) (nat_lt k (at + length bs)) (lt-leb at k before))

  pub over_after : at + length bs ≤ k → byte_over at bs old k ≡ old k
  over_after following =
      cond-false (nat_le at k && nat_lt k (at + length bs)) (get_or bs (k - at) 0) (old k)
      (and_right (nat_le at k) (nat_lt k (at + length bs)) (le-ltb k (at + length bs) following))

-- the bytes of a list with some in place of as many
pub list_over : (from : ℕ) (bs xs : List ℕ) (i : ℕ) → from + length bs ≤ length xs
    → get_or (take from xs ++ (bs ++ drop (length bs) (drop from xs))) i 0
    ≡ byte_over from bs (λ i. get_or xs i 0) i
list_over from bs xs i fits =
    let front : length (take from xs) ≡ from = omega (arith, length-take from xs) in
    let rest = bs ++ drop (length bs) (drop from xs) in
    ⊎_elim
    (λ (before : i < from).
    get_or_append_left (take from xs) rest 0 i (omega arith)
    ∙ get_or-take from xs i 0 before
    ∙ sym (over_before from bs (λ i. get_or xs i 0) i before))
    (λ (at : from ≤ i).
    get_or-append_right (take from xs) rest from i 0 front at
    ∙ ⊎_elim
    (λ (within : i - from < length bs).
    get_or_append_left bs (drop (length bs) (drop from xs)) 0 (i - from) within
    ∙ sym (over_in from bs (λ i. get_or xs i 0) i at (omega arith)))
    (λ (following : length bs ≤ i - from).
    get_or-append_right bs (drop (length bs) (drop from xs)) (length bs) (i - from) 0 refl following
    ∙ get_or-drop (length bs) (drop from xs) (i - from - length bs) 0
    ∙ get_or-drop from xs (length bs + (i - from - length bs)) 0
    ∙ ap (λ j. get_or xs j 0)
    (let same : from + (length bs + (i - from - length bs)) ≡ i = omega arith in same)
    ∙ sym (over_after from bs (λ i. get_or xs i 0) i (omega arith)))
    (cases_lt (i - from) (length bs)))
    (cases_lt i from)

-- and where they reach after its end
pub list_on : (from : ℕ) (bs xs : List ℕ) (i : ℕ) → length xs < from + length bs
    → get_or ((take from xs ++ replicate (from - length xs) 0) ++ bs) i 0
    ≡ byte_over from bs (λ i. get_or xs i 0) i
list_on from bs xs i past =
    let k : ℕ = from - length xs in
    let head = take from xs in
    let front = head ++ replicate k 0 in
    let cut = length-take from xs in
    let long : length front ≡ from =
    omega (arith, cut, length-append head (replicate k 0), length-replicate {A = ℕ} k 0) in
    ⊎_elim
    (λ (before : i < from).
    get_or_append_left front bs 0 i (omega arith)
    ∙ ⊎_elim
    (λ (inside : i < length xs).
    get_or_append_left head (replicate k 0) 0 i (omega arith) ∙ get_or-take from xs i 0 before)
    (λ (following : length xs ≤ i).
    get_or-append_right head (replicate k 0) (length xs) i 0 (omega arith) following
    ∙ zero_at k (i - length xs) 0 ∙ sym (get_or_past xs i 0 following))
    (cases_lt i (length xs))
    ∙ sym (over_before from bs (λ i. get_or xs i 0) i before))
    (λ (at : from ≤ i).
    get_or-append_right front bs from i 0 long at
    ∙ ⊎_elim
    (λ (within : i - from < length bs).
    sym (over_in from bs (λ i. get_or xs i 0) i at (omega arith)))
    (λ (following : length bs ≤ i - from).
    get_or_past bs (i - from) 0 following ∙ sym (get_or_past xs i 0 (omega arith))
    ∙ sym (over_after from bs (λ i. get_or xs i 0) i (omega arith)))
    (cases_lt (i - from) (length bs)))
    (cases_lt i from)

-- bytes that are written within a page, at its place and at that of the file
over_moved : (at page from : ℕ) (bs xs : List ℕ) (old : ℕ → ℕ) (place : ℕ)
    → page ≡ at / 4096 → from ≡ at % 4096 → page ≡ place / 4096
    → old place ≡ get_or xs (place % 4096) 0
    → byte_over from bs (λ i. get_or xs i 0) (place % 4096) ≡ byte_over at bs old place
over_moved at page from bs xs old place is rest here same =
    let i : ℕ = place % 4096 in
    let inner : ℕ → ℕ = λ i. get_or xs i 0 in
    ⊎_elim
    (λ (before : i < from).
    over_before from bs inner i before ∙ sym same
    ∙ sym (over_before at bs old place (omega arith)))
    (λ (following : from ≤ i).
    ⊎_elim
    (λ (within : i < from + length bs).
    over_in from bs inner i following within
    ∙ ap (λ j. get_or bs j 0) (let e : i - from ≡ place - at = omega arith in e)
    ∙ sym (over_in at bs old place (omega arith) (omega arith)))
    (λ (past : from + length bs ≤ i).
    over_after from bs inner i past ∙ sym same
    ∙ sym (over_after at bs old place (omega arith)))
    (cases_lt i (from + length bs)))
    (cases_lt i from)

-- a page of which some bytes are written over
pub bytes_put : (old new : Pages) (at page from : ℕ) (v w : Vec ℕ Global) (bs : List ℕ)
    → lookup (is_at (nat_cmp page)) old ≡ Some v
    → lookup (is_at (nat_cmp page)) new ≡ Some w
    → ((q : ℕ) → is_at (nat_cmp page) q ≡ false
    → lookup (is_at (nat_cmp q)) new ≡ lookup (is_at (nat_cmp q)) old)
    → page ≡ at / 4096 → from ≡ at % 4096 → from + length bs ≤ 4096
    → ((i : ℕ) → get_or w.items i 0 ≡ byte_over from bs (λ i. get_or v.items i 0) i)
    → (place : ℕ) → byte_at new place ≡ byte_over at bs (byte_at old) place
unfolding byte_at
bytes_put old new at page from v w bs was is others number rest fits put place =
    ⊎_elim
    (λ (here : page ≡ place / 4096).
    ap (λ n. get_or (page_at new n) (place % 4096) 0) (sym here)
    ∙ ap (λ o. get_or (bytes_in o) (place % 4096) 0) is
    ∙ put (place % 4096)
    ∙ over_moved at page from bs v.items (byte_at old) place number rest here
    (ap (λ n. get_or (page_at old n) (place % 4096) 0) (sym here)
    ∙ ap (λ o. get_or (bytes_in o) (place % 4096) 0) was))
    (λ (apart : page ≡ place / 4096 → ⊥).
    ap (λ o. get_or (bytes_in o) (place % 4096) 0)
    (others (place / 4096) (is_at_other page (place / 4096) apart))
    ∙ ⊎_elim
    (λ (before : place < at). sym (over_before at bs (byte_at old) place before))
    (λ (following : at ≤ place). sym (over_after at bs (byte_at old) place (omega arith)))
    (cases_lt place at))
    (cases_eq page (place / 4096))

-- ---- without some

pub undone-append : (ns : List ℕ) (n : ℕ) (pages : Pages)
    → undone (ns ++ n ∷ []) pages ≡ undone ns (remove_entry (is_at (nat_cmp n)) pages)
undone-append [] n pages = refl
undone-append (m ∷ ms) n pages =
    ap (remove_entry (is_at (nat_cmp m))) (undone-append ms n pages)

module _ {X : Type 0} (p : ℕ → Bool) where
  -- an entry that does not pass makes no difference to those that do
  pub filter_removed : (n : ℕ) → p n ≡ false → (es : List (ℕ × X))
      → filter (λ e. p e.0) (remove_entry (is_at (nat_cmp n)) es) ≡ filter (λ e. p e.0) es
  filter_removed n fails [] = refl
  filter_removed n fails (e ∷ es) =
      by (is_at (nat_cmp n) e.0) refl (filter_removed n fails es)
    where
      kept : List (ℕ × X)
      kept = filter (λ e. p e.0) es

      by : (t : Bool) → is_at (nat_cmp n) e.0 ≡ t
          → filter (λ e. p e.0) (remove_entry (is_at (nat_cmp n)) es) ≡ filter (λ e. p e.0) es
          → filter (λ e. p e.0) (cond t es (e ∷ remove_entry (is_at (nat_cmp n)) es))
          ≡ cond (p e.0) (e ∷ filter (λ e. p e.0) es) (filter (λ e. p e.0) es)
      by true is later =
          sym (cond-false (p e.0) (e ∷ filter (λ e. p e.0) es) (filter (λ e. p e.0) es)
          (ap p (sym (is_at_same n e.0 is)) ∙ fails))
      by false is later =
          ap (λ (l : List (ℕ × X)). cond (p e.0) (e ∷ l) l) later

  -- where nothing is found that does not pass, all pass
  pub filter_none : (es : List (ℕ × X))
      → ((q : ℕ) → p q ≡ false → lookup (is_at (nat_cmp q)) es ≡ None)
      → filter (λ e. p e.0) es ≡ es
  filter_none [] none = refl
  filter_none (e ∷ es) none =
      ⊎_elim
      (λ (passes : p e.0 ≡ true).
      cond-true (p e.0) (e ∷ filter (λ e. p e.0) es) (filter (λ e. p e.0) es) passes
      ∙ ap (λ (l : List (ℕ × X)). e ∷ l)
      (filter_none es (λ q fails. later q (is_at (nat_cmp q) e.0) (none q fails))))
      (λ (fails : p e.0 ≡ false).
      absurd (none-some e.1 (sym (none e.0 fails)
      ∙ cond-true (is_at (nat_cmp e.0) e.0) (Some e.1) (lookup (is_at (nat_cmp e.0)) es)
      (at_itself e.0))))
      (cases_Bool (p e.0))
    where
      later : (q : ℕ) (t : Bool) → cond t (Some e.1) (lookup (is_at (nat_cmp q)) es) ≡ None
          → lookup (is_at (nat_cmp q)) es ≡ None
      later q true is = cc
      later q false is = is

  pub keys-filter : (es : List (ℕ × X))
      → keys_of (filter (λ e. p e.0) es) ≡ filter p (keys_of es)
  keys-filter [] = refl
  keys-filter (e ∷ es) = by (p e.0) (keys-filter es)
    where
      by : (t : Bool) → keys_of (filter (λ e. p e.0) es) ≡ filter p (keys_of es)
          → keys_of (cond t (e ∷ filter (λ e. p e.0) es) (filter (λ e. p e.0) es))
          ≡ cond t (e.0 ∷ filter p (keys_of es)) (filter p (keys_of es))
      by true later = ap (λ (l : List ℕ). e.0 ∷ l) later
      by false later = later

-- the pages that pass have their bytes, and where the others were are zeros
pub bytes_filtered : (p : ℕ → Bool) (old new : Pages) → new ≡ filter (λ e. p e.0) old
    → (place : ℕ) → byte_at new place ≡ cond (p (place / 4096)) (byte_at old place) 0
unfolding byte_at
bytes_filtered p old new is place =
    let n : ℕ = place / 4096 in
    let i : ℕ = place % 4096 in
    ap (λ (es : Pages). get_or (page_at es n) i 0) is
    ∙ ap (λ o. get_or (bytes_in o) i 0)
    (lookup-filter-keys (is_at (nat_cmp n)) p (p n)
    (λ k is. ap p (sym (is_at_same n k is))) old)
    ∙ by (p n)
  where
    by : (t : Bool) → get_or (bytes_in (cond t (lookup (is_at (nat_cmp (place / 4096))) old) None)) (place % 4096) 0
        ≡ cond t (get_or (page_at old (place / 4096)) (place % 4096) 0) 0
    by true = refl
    by false = refl

-- ---- what holds of each page

-- where some are taken out
pub pages_less : (old new : Pages) (test : ℕ → Bool)
    → ((q : ℕ) → lookup (is_at (nat_cmp q)) new ≡ cond (test q) None (lookup (is_at (nat_cmp q)) old))
    → ArePages old → ArePages new
pages_less old new test is each n = by (test n) (is n)
  where
    by : (t : Bool)
        → lookup (is_at (nat_cmp n)) new ≡ cond t None (lookup (is_at (nat_cmp n)) old)
        → IfSome (lookup (is_at (nat_cmp n)) new) (λ page. IsPage page)
    by true e = rw e tt
    by false e = rw e (each n)

-- ---- a part of a page

pub part_read : (pages : Pages) (at i : ℕ) (v : Vec ℕ Global)
    → lookup (is_at (nat_cmp (at / 4096))) pages ≡ Some v → at % 4096 + i < 4096
    → get_or v.items (at % 4096 + i) 0 ≡ byte_at pages (at + i)
unfolding byte_at
part_read pages at i v some fits =
    let page : (at + i) / 4096 ≡ at / 4096 = omega arith in
    let place : (at + i) % 4096 ≡ at % 4096 + i = omega arith in
    ap (λ j. get_or v.items j 0) (sym place)
    ∙ sym (ap (λ o. get_or (bytes_in o) ((at + i) % 4096) 0)
    (ap (λ n. lookup (is_at (nat_cmp n)) pages) page ∙ some))

pub part_zero : (pages : Pages) (at i : ℕ)
    → lookup (is_at (nat_cmp (at / 4096))) pages ≡ None → at % 4096 + i < 4096
    → byte_at pages (at + i) ≡ 0
unfolding byte_at
part_zero pages at i none fits =
    let page : (at + i) / 4096 ≡ at / 4096 = omega arith in
    ap (λ o. get_or (bytes_in o) ((at + i) % 4096) 0)
    (ap (λ n. lookup (is_at (nat_cmp n)) pages) page ∙ none)

-- ---- the last page

pub none_after : (es : Pages) (last page : ℕ)
    → ((q : ℕ) → IsSome (lookup (is_at (nat_cmp q)) es) → is_lt (nat_cmp last q) ≡ false)
    → last < page → (q : ℕ) → nat_lt q page ≡ false → lookup (is_at (nat_cmp q)) es ≡ None
none_after es last page most below q fails = by (lookup (is_at (nat_cmp q)) es) refl
  where
    by : (o : Option (Vec ℕ Global)) → lookup (is_at (nat_cmp q)) es ≡ o
        → lookup (is_at (nat_cmp q)) es ≡ None
    by None is = is
    by (Some v) is =
        let some : IsSome (lookup (is_at (nat_cmp q)) es) = rw is refl in
        let following : last < q = omega (arith, ltb-false q page fails, below) in
        absurd (both_ways (is_lt (nat_cmp last q)) (most q some)
        (ap is_lt (sym (nat_cmp_is last q Less following))))

-- ---- one page more

pub held_more : (held new : List ℕ) (n end : ℕ) → n < end → new ≡ with_page held n
    → with_pages new (n + 1) (end - (n + 1)) ≡ with_pages held n (end - n)
held_more held new n end below is =
    let more : end - n ≡ suc (end - (n + 1)) = omega arith in
    ap (λ l. with_pages l (n + 1) (end - (n + 1))) is ∙ sym (ap (with_pages held n) more)

pub page_new : (held : List ℕ) (n : ℕ) → holds held n ≡ false
    → insert_key nat_cmp held n ≡ with_page held n
page_new held n free = sym (cond-false (holds held n) held (insert_key nat_cmp held n) free)

pub page_there : (held : List ℕ) (n : ℕ) → holds held n ≡ true → held ≡ with_page held n
page_there held n there = sym (cond-true (holds held n) held (insert_key nat_cmp held n) there)

pub grown_by : (test : ℕ → Bool) (ks : List ℕ) (n : ℕ) → list_any test ks ≡ true
    → list_any test (insert_key nat_cmp ks n) ≡ true
grown_by test [] n there = cc
grown_by test (k ∷ ks) n there =
    by (nat_cmp n k) (grown_by test ks n)
  where
    by : (r : Ordering)
        → (list_any test ks ≡ true → list_any test (insert_key nat_cmp ks n) ≡ true)
        → list_any test (match_ordering r (n ∷ k ∷ ks) (k ∷ ks) (k ∷ insert_key nat_cmp ks n)) ≡ true
    by Less rest = or_right (test n) (test k || list_any test ks) there
    by Equal rest = there
    by Greater rest =
        ⊎_elim
        (λ (here : test k ≡ true). or_left (test k) (list_any test (insert_key nat_cmp ks n)) here)
        (λ (later : list_any test ks ≡ true).
        or_right (test k) (list_any test (insert_key nat_cmp ks n)) (rest later))
        (or_cases (test k) (list_any test ks) there)

-- ---- pages that are missing

pub missing_some : (held : List ℕ) (page count n : ℕ) → page ≤ n → n < page + count
    → holds held n ≡ false → 0 < missing held page count
missing_some held page zero n from to free = absurd (omega arith)
missing_some held page (suc k) n from to free =
    ⊎_elim
    (λ (here : page ≡ n).
    let one = cond-false {A = ℕ} (holds held page) 0 1 (ap (holds held) here ∙ free) in
    omega (arith, one))
    (λ (apart : page ≡ n → ⊥).
    let later = missing_some held (page + 1) k n (omega arith) (omega arith) free in
    omega (arith, later))
    (cases_eq page n)

-- ---- none at all

pub none_there : {X Y : Type 0} (es : List X) (o : Option Y) → o ≡ None
    → (0 < length es → IsSome o) → es ≡ []
none_there [] o is some = refl
none_there (e ∷ es) o is some =
    absurd (both_ways (is_some o) (ap is_some is) (some (omega arith)))

-- no page, no byte
pub no_bytes : (place : ℕ) → byte_at [] place ≡ 0
unfolding byte_at
no_bytes place = refl

-- ---- counts of pages, one page more

pub missing_more : (held : List ℕ) (n end : ℕ) → n < end
    → missing held n (end - n) ≡ cond (holds held n) 0 1 + missing held (n + 1) (end - (n + 1))
missing_more held n end below =
    let more : end - n ≡ suc (end - (n + 1)) = omega arith in
    ap (missing held n) more

pub reach_more : (held : List ℕ) (free n end : ℕ) → n < end
    → reach held free n (end - n)
    ≡ cond (holds held n) (reach held free (n + 1) (end - (n + 1)))
    (cond (free == 0) n (reach held (free - 1) (n + 1) (end - (n + 1))))
reach_more held free n end below =
    let more : end - n ≡ suc (end - (n + 1)) = omega arith in
    ap (reach held free n) more
