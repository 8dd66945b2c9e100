-- Transfers into pages that are held, and the count of what is left.
use Rattle.std.proofs.Common.{◌≡◌, ◌≤◌, ◌<◌, ◌+◌, ◌-◌, ◌/◌, ◌^◌, ℕ, zero, suc, Bool, true, false, if◌then◌else◌, List, [], ◌∷◌, ◌++◌, length, take, drop, get_or, min, Option, Result, Ok, refl, sym, ap, ◌∙◌, ⊎_elim, arith, length-append, length-take, length-drop, take_at, nat_cmp, Ordering, Less, Equal, Greater}
use Rattle.std.specs.List.{concat}
use Rattle.std.proofs.lemmas.List.Folds.{concat-append}
use Rattle.vfs_segments.specs.ViewLaws.{concat-take_more, take-append_past}
use Rattle.std.specs.Map.{keys_of}
use Rattle.std.specs.BTreeMap.{is_at}
use Rattle.std.specs.BTreeSet.{insert_key}
use Rattle.std.specs.Ordering.{match_ordering}
use Rattle.std.proofs.Math.Seq.{take-add}
use Rattle.std.proofs.lemmas.Bool.{cases_lt, cases_eq, cases_Bool, or_left}
use Rattle.std.proofs.lemmas.List.{get_or_append_left, get_or-append_right, drop-drop, take-append-drop, take-append-le}
use Rattle.std.proofs.lemmas.List.Sums.{sum_by-cons}
use Rattle.vfs_segments.specs.declared.file.WritevFlags.{WritevFlags}
use Rattle.vfs_files.specs.Transfers.{Ending, Finished, Stuck, Broken, Past, last_bytes, bytes_moved, count_moved, writes_of, view_len, Goes, EndsBy, Transfers}
use Rattle.vfs_files.specs.TransferLaws.{goes_within}
use Rattle.fs_nodes.specs.Pages.{Pages, byte_at, byte_over, holds, with_page, with_pages}
use Rattle.fs_nodes.specs.Filling.{Fills}
use Rattle.fs_nodes.specs.declared.transfer.Counting.{Counting}
use Rattle.fs_nodes.proofs.HeldPages.{over_in, over_before, over_after, at_itself, grown_by, page_new, page_there}

-- ---- bytes over bytes

-- no bytes over others
pub over_none : (at : ℕ) (old : ℕ → ℕ) (k : ℕ) → byte_over at [] old k ≡ old k
over_none at old k =
    ⊎_elim
    (λ (before : k < at). over_before at [] old k before)
    (λ (following : at ≤ k). over_after at [] old k (omega arith))
    (cases_lt k at)

-- more bytes after those that were written
pub over_more : (at next : ℕ) (a b : List ℕ) (f g : ℕ → ℕ) (k : ℕ) → next ≡ at + length a
    → g k ≡ byte_over at a f k → byte_over next b g k ≡ byte_over at (a ++ b) f k
over_more at next a b f g k is same =
    let both = length-append a b in
    ⊎_elim
    (λ (before : k < next).
    over_before next b g k before ∙ same
    ∙ ⊎_elim
    (λ (out : k < at). over_before at a f k out ∙ sym (over_before at (a ++ b) f k out))
    (λ (in_a : at ≤ k).
    over_in at a f k in_a (omega arith)
    ∙ sym (get_or_append_left a b 0 (k - at) (omega arith))
    ∙ sym (over_in at (a ++ b) f k in_a (omega arith)))
    (cases_lt k at))
    (λ (following : next ≤ k).
    ⊎_elim
    (λ (in_b : k < next + length b).
    let place : k - at - length a ≡ k - next = omega arith in
    over_in next b g k following in_b ∙ ap (λ j. get_or b j 0) (sym place)
    ∙ sym (get_or-append_right a b (length a) (k - at) 0 refl (omega arith))
    ∙ sym (over_in at (a ++ b) f k (omega arith) (omega arith)))
    (λ (out : next + length b ≤ k).
    over_after next b g k out ∙ same ∙ over_after at a f k (omega arith)
    ∙ sym (over_after at (a ++ b) f k (omega arith)))
    (cases_lt k (next + length b)))
    (cases_lt k next)

-- ---- lists

take_shorter : (n m : ℕ) (l : List ℕ) → n ≤ m → take n (take m l) ≡ take n l
take_shorter zero m l less = refl
take_shorter (suc n) zero l less = absurd (omega arith)
take_shorter (suc n) (suc m) [] less = refl
take_shorter (suc n) (suc m) (x ∷ xs) less =
    ap (λ (l : List ℕ). x ∷ l) (take_shorter n m xs (omega arith))

drop_on : (n m : ℕ) (l : List ℕ) → drop (m + n) l ≡ drop n (drop m l)
drop_on n m l =
    sym (drop-drop n m l)

-- ---- writes in a row

-- what a write of pages may do, whatever the flags are
abbrev pub fills : Pages → List ℕ → ℕ → Option WritevFlags → Result ℕ (Option ℕ) → Pages → Type 0
fills old bytes off flags answer new = Fills old bytes off answer new

abbrev Same : Result ℕ (Option ℕ) → Result ℕ (Option ℕ) → Type 0
Same a b = a ≡ b

same_count : (a b : ℕ) → Same (Ok a) (Ok b) → b ≡ a
same_count a b e = cc

module _ (left : List ℕ) (flags : Option WritevFlags) (count off : ℕ) (low : off + count < 2 ^ 64) where
  fill_goes : (moved : ℕ) (old : Pages) (row : List (List ℕ × Pages)) (new : Pages)
      → Goes (writes_of fills left flags) count (length left) off moved old row new
      → (keys_of new ≡ keys_of old)
      × ((place : ℕ) → byte_at new place
      ≡ byte_over (off + moved) (take (count_moved row) (drop moved left)) (byte_at old) place)
  fill_goes moved old [] new g = (
    ap keys_of g,
    λ place. ap (λ (p : Pages). byte_at p place) g
        ∙ sym (over_none (off + moved) (byte_at old) place),
  )
  fill_goes moved old (c ∷ cs) new g =
      let r = g.0.call.1.0 in
      let here = drop moved left in
      let n : ℕ = length c.0 in
      let told : r.count ≡ n = same_count n r.count r.answered in
      let within = g.0.within in
      let part = g.0.call.1.1 in
      let long : length (take n here) ≡ n = sym (ap length part) in
      let rest = fill_goes (moved + n) c.1 cs new g.2 in
      let sum : count_moved (c ∷ cs) ≡ n + count_moved cs =
      sum_by-cons (λ (x : List ℕ × Pages). length x.0) c cs in (
        rest.0 ∙ r.keys,
        λ place.
            let next : off + (moved + n) ≡ off + moved + length (take n here) = omega (arith, long) in
            let first : byte_at c.1 place ≡ byte_over (off + moved) (take n here) (byte_at old) place =
            r.bytes_are place
            ∙ ap (λ k. byte_over (off + moved)
            (take k (take (view_len (writes_of fills left flags) count (length left) off moved) here))
            (byte_at old) place) told
            ∙ ap (λ l. byte_over (off + moved) l (byte_at old) place)
            (take_shorter n (view_len (writes_of fills left flags) count (length left) off moved) here within) in
            rest.1 place
            ∙ over_more (off + moved) (off + (moved + n)) (take n here)
            (take (count_moved cs) (drop (moved + n) left)) (byte_at old) (byte_at c.1) place next first
            ∙ ap (λ l. byte_over (off + moved) l (byte_at old) place)
            (ap (λ l. take n here ++ take (count_moved cs) l) (drop_on n moved left)
            ∙ sym (take-add n (count_moved cs) here) ∙ ap (λ k. take k here) (sym sum)),
      )

  -- and end when all is written, where the pages are held
  fill_ends : (moved : ℕ) (old : Pages) (ending : Ending) (new : Pages)
      → moved ≤ min count (length left)
      → ((m : ℕ) → m < count → holds (keys_of old) ((off + m) / 4096) ≡ true)
      → EndsBy (writes_of fills left flags) count (length left) off moved old ending new
      → (moved ≡ min count (length left)) × (new ≡ old)
  fill_ends moved old Finished new small held h = (omega (arith, h.0), h.1)
  fill_ends moved old Stuck new small held h =
      let r = h.1.0 in
      let some = h.0 in
      let none : r.count ≡ 0 = same_count 0 r.count r.answered in
      let bytes = length-take (view_len (writes_of fills left flags) count (length left) off moved)
      (drop moved left) in
      let rest = length-drop moved left in
      let all = r.all
      (λ place from to.
      let back : off + (place - off) ≡ place = omega arith in
      ap (λ k. holds (keys_of old) (k / 4096)) (sym back)
      ∙ held (place - off) (omega (arith, bytes)))
      (omega (arith, bytes)) in
      absurd (omega (arith, none, all, bytes, rest))
  fill_ends moved old (Broken fault) new small held h = let e = h.1.answered in cc
  fill_ends moved old (Past part) new small held h =
      let within = h.0.within in
      let far = h.1 in
      absurd (omega (arith, low))

  pub fills_all : (old : Pages) (bytes : List ℕ) (result : Result ℕ (Option ℕ)) (new : Pages)
      → ((m : ℕ) → m < count → holds (keys_of old) ((off + m) / 4096) ≡ true)
      → Transfers (writes_of fills left flags) count (length left) off old bytes result new
      → (keys_of new ≡ keys_of old)
      × ((place : ℕ) → byte_at new place
      ≡ byte_over off (take (min count (length left)) left) (byte_at old) place)
  fills_all old bytes result new held t =
      let size =
      goes_within (writes_of fills left flags) count (length left) off 0 old t.row t.middle
      (omega arith) t.goes in
      let row = fill_goes 0 old t.row t.middle t.goes in
      let end = fill_ends (count_moved t.row) t.middle t.ending new (omega (arith, size.1))
      (λ m less. ap (λ ks. holds ks ((off + m) / 4096)) row.0 ∙ held m less) t.ends in
      let place_is : off + 0 ≡ off = omega arith in (
        ap keys_of end.1 ∙ row.0,
        λ place. ap (λ (p : Pages). byte_at p place) end.1 ∙ row.1 place
            ∙ ap (λ k. byte_over k (take (count_moved t.row) left) (byte_at old) place) place_is
            ∙ ap (λ k. byte_over off (take k left) (byte_at old) place) end.0,
      )

-- ---- the count of what is left

abbrev counts : Counting → List ℕ → ℕ → Option WritevFlags → Result ℕ (Option ℕ) → Counting → Type 0
counts old bytes off flags answer new = (answer ≡ Ok 0) × (new.total ≡ length bytes)

module _ (left : List ℕ) (flags : Option WritevFlags) (count : ℕ) where
  count_cases : (old middle new : Counting) (row : List (List ℕ × Counting)) (ending : Ending)
      → old.total ≡ 0
      → Goes (writes_of counts left flags) count (length left) 0 0 old row middle
      → EndsBy (writes_of counts left flags) count (length left) 0 (count_moved row) middle ending new
      → (bytes_moved row ++ last_bytes ending ≡ []) × (new.total ≡ min count (length left))
  count_cases old middle new [] Finished none g e =
      let none_left = e.0 in
      let same = ap (λ (f : Counting). f.total) (e.1 ∙ g) in
      (refl, omega (arith, same))
  count_cases old middle new [] Stuck none g e =
      let told = e.1.0.1 in
      let size = length-take (min count (length left) - 0) left in
      (refl, omega (arith, told, size))
  count_cases old middle new [] (Broken fault) none g e = let a = e.1.0 in cc
  count_cases old middle new [] (Past part) none g e =
      let some = e.0.some in
      let zero_is : length part ≡ 0 = sym (same_count (length part) 0 e.0.call.1.0.0) in
      absurd (omega arith)
  count_cases old middle new (c ∷ cs) ending none g e =
      let some = g.0.some in
      let zero_is : length c.0 ≡ 0 = sym (same_count (length c.0) 0 g.0.call.1.0.0) in
      absurd (omega arith)

  pub counted : (old : Counting) (bytes : List ℕ) (result : Result ℕ (Option ℕ)) (new : Counting)
      → old.total ≡ 0
      → Transfers (writes_of counts left flags) count (length left) 0 old bytes result new
      → (bytes ≡ []) × (new.total ≡ min count (length left))
  counted old bytes result new none t =
      let h = count_cases old t.middle new t.row t.ending none t.goes t.ends in
      (t.bytes_are ∙ h.0, h.1)

-- ---- pages that are held

grown_page : (held : List ℕ) (n q : ℕ) → holds held q ≡ true → holds (with_page held n) q ≡ true
grown_page held n q there =
    ⊎_elim
    (λ (is : holds held n ≡ true).
    ap (λ ks. holds ks q) (sym (page_there held n is)) ∙ there)
    (λ (free : holds held n ≡ false).
    ap (λ ks. holds ks q) (sym (page_new held n free)) ∙ grown_by (is_at (nat_cmp q)) held n there)
    (cases_Bool (holds held n))

grown_pages : (held : List ℕ) (n k q : ℕ) → holds held q ≡ true → holds (with_pages held n k) q ≡ true
grown_pages held n zero q there = there
grown_pages held n (suc k) q there =
    grown_pages (with_page held n) (n + 1) k q (grown_page held n q there)

inserted : (ks : List ℕ) (n : ℕ) → holds (insert_key nat_cmp ks n) n ≡ true
inserted [] n = or_left (is_at (nat_cmp n) n) false (at_itself n)
inserted (k ∷ ks) n = by (nat_cmp n k) refl (inserted ks n)
  where
    by : (r : Ordering) → nat_cmp n k ≡ r → holds (insert_key nat_cmp ks n) n ≡ true
        → holds (match_ordering r (n ∷ k ∷ ks) (k ∷ ks) (k ∷ insert_key nat_cmp ks n)) n ≡ true
    by Less is later = or_left (is_at (nat_cmp n) n) (holds (k ∷ ks) n) (at_itself n)
    by Equal is later = rw is refl
    by Greater is later = rw is later

page_in : (held : List ℕ) (n : ℕ) → holds (with_page held n) n ≡ true
page_in held n =
    ⊎_elim
    (λ (is : holds held n ≡ true). ap (λ ks. holds ks n) (sym (page_there held n is)) ∙ is)
    (λ (free : holds held n ≡ false).
    ap (λ ks. holds ks n) (sym (page_new held n free)) ∙ inserted held n)
    (cases_Bool (holds held n))

-- each of that many pages is held then
pub pages_in : (held : List ℕ) (n k q : ℕ) → n ≤ q → q < n + k → holds (with_pages held n k) q ≡ true
pages_in held n zero q from to = absurd (omega arith)
pages_in held n (suc k) q from to =
    ⊎_elim
    (λ (here : n ≡ q).
    grown_pages (with_page held n) (n + 1) k q
    (ap (holds (with_page held n)) (sym here) ∙ page_in held n))
    (λ (apart : n ≡ q → ⊥). pages_in (with_page held n) (n + 1) k q (omega arith) (omega arith))
    (cases_eq n q)

-- ---- pieces in a row

concat_split : (view : List (List ℕ)) (i : ℕ)
    → concat view ≡ concat (take i view) ++ concat (drop i view)
concat_split view i = ap concat (sym (take-append-drop i view)) ∙ concat-append (take i view) (drop i view)

-- the front pieces are the front of all
pub front_pieces : (view : List (List ℕ)) (i n : ℕ) → n ≡ length (concat (take i view))
    → take n (concat view) ≡ concat (take i view)
front_pieces view i n long =
    ap (take n) (concat_split view i)
    ∙ take_at (concat (take i view)) (concat (drop i view)) n (sym long)

pub front_size : (view : List (List ℕ)) (i : ℕ) → length (concat (take i view)) ≤ length (concat view)
front_size view i =
    omega (
      arith,
      ap length (concat_split view i),
      length-append (concat (take i view)) (concat (drop i view)),
    )

-- and with that many bytes of the next piece
pub front_part : (view : List (List ℕ)) (i n k : ℕ) (piece : List ℕ) → i < length view
    → piece ≡ get_or view i [] → n ≡ length (concat (take i view)) → k ≤ length piece
    → take (n + k) (concat view) ≡ concat (take i view) ++ take k piece
front_part view i n k piece bound is long less =
    let before = concat (take i view) in
    let rest = concat (drop (i + 1) view) in
    let all : concat view ≡ (before ++ piece) ++ rest =
    concat_split view (i + 1)
    ∙ ap (λ l. l ++ rest) (concat-take_more view i bound ∙ ap (λ l. before ++ l) (sym is)) in
    let there : n + k ≤ length (before ++ piece) = omega (arith, length-append before piece) in
    ap (take (n + k)) all ∙ take-append-le (n + k) (before ++ piece) rest there
    ∙ take-append_past before piece k (n + k) (ap (λ j. j + k) long)

-- a put takes no more bytes than there are
pub put_most : (held : Bool) (n len free : ℕ) → n ≡ (if held then min len free else 0) → n ≤ len
put_most true n len free is = omega (arith, is)
put_most false n len free is = omega (arith, is)
