-- Zeros in place of bytes, and pages that go.
use Rattle.std.proofs.Common.{◌≡◌, ◌≤◌, ◌<◌, ◌+◌, ◌-◌, ◌*◌, ◌/◌, ◌%◌, ℕ, not, nat_le, nat_lt, nat_cmp, true, false, cond, [], ◌∷◌, ◌++◌, length, take, drop, filter, replicate, get_or, min, None, Ordering, Less, Equal, Greater, refl, sym, ap, ◌∙◌, ⊎_elim, arith, length-append, length-take, length-drop, Vec}
use Rattle.std.specs.Int.{div_ceil}
use Rattle.std.specs.Map.{keys_of, lookup}
use Rattle.std.specs.BTreeMap.{BTreeMap, is_at}
use Rattle.std.specs.BTreeMap.Range.{IsRangeOf}
use Rattle.std.specs.Cmp.{nat_cmp_is, ranks}
use Rattle.std.specs.Ordering.{is_gt, MatchOrdering}
use Rattle.std.specs.declared.alloc.Global.{Global}
use Rattle.std.specs.declared.ops.Bound.TheVariants.{Included, Excluded}
use Rattle.std.proofs.lemmas.Bool.{both_ways, cases_lt, cond-true, cond-false, and_from, and_left, and_right, le-leb, lt-leb, le-ltb, lt-ltb}
use Rattle.std.proofs.lemmas.List.{ext_get_or, get_or_append_left, get_or-append_right, get_or-take, get_or-drop, length-replicate}
use Rattle.fs_nodes.specs.Pages.{Pages, byte_at, byte_over, is_outside}
use Rattle.fs_nodes.specs.Contents.{bytes_of, contents_of, punched, zeroed}
use Rattle.fs_nodes.proofs.HeldPages.{over_in, over_before, over_after, zeros_at}
use Rattle.fs_nodes.proofs.Shown.{length-bytes_of, shown, both}

-- ---- pages that stay and pages that go

outside_before : (first last n : ℕ) → n < first → is_outside first last n ≡ true
outside_before first last n before =
    ap not (and_left (nat_le first n) (nat_lt n last) (lt-leb first n before))

outside_after : (first last n : ℕ) → last ≤ n → is_outside first last n ≡ true
outside_after first last n following =
    ap not (and_right (nat_le first n) (nat_lt n last) (le-ltb n last following))

inside : (first last n : ℕ) → first ≤ n → n < last → is_outside first last n ≡ false
inside first last n from to =
    ap not (and_from (nat_le first n) (nat_lt n last) (le-leb first n from) (lt-ltb n last to))

pub between : (first last n : ℕ) → is_outside first last n ≡ false → (first ≤ n) × (n < last)
between first last n is = (
  ⊎_elim
      (λ (before : n < first).
      absurd (both_ways (is_outside first last n) is (outside_before first last n before)))
      (λ (from : first ≤ n). from) (cases_lt n first),
  ⊎_elim (λ (to : n < last). to)
      (λ (following : last ≤ n).
      absurd (both_ways (is_outside first last n) is (outside_after first last n following)))
      (cases_lt n last),
)

not_after : (a b : ℕ) (r : Ordering) → MatchOrdering r (a < b) (a ≡ b) (b < a) → is_gt r ≡ false → a ≤ b
not_after a b Less is none = omega (arith, is)
not_after a b Equal is none = omega (arith, is)
not_after a b Greater is none = cc

no_after : (a b : ℕ) (r : Ordering) → MatchOrdering r (a < b) (a ≡ b) (b < a) → a ≤ b → is_gt r ≡ false
no_after a b Less is from = refl
no_after a b Equal is from = refl
no_after a b Greater is from = absurd (omega (arith, is))

before_is : (a b : ℕ) → nat_cmp a b ≡ Less → a < b
before_is a b is = by (nat_cmp a b) (ranks a b) is
  where
    by : (r : Ordering) → MatchOrdering r (a < b) (a ≡ b) (b < a) → r ≡ Less → a < b
    by Less less same = less
    by Equal less same = cc
    by Greater less same = cc

-- the first page of a range is one that goes, and where there is none no page is
pub first_goes : (first last n : ℕ) (m : BTreeMap ℕ (Vec ℕ Global)) (v : Vec ℕ Global) (r rest : Pages)
    → IsRangeOf nat_cmp (Included first) (Excluded last) m r → r ≡ (n, v) ∷ rest
    → is_outside first last n ≡ false
first_goes first last n m v r rest range is =
    let here = rw is at (range.1) in
    inside first last n (not_after first n (nat_cmp first n) (ranks first n) here.0.0)
    (before_is n last here.0.1)

pub none_goes : (first last : ℕ) (m : BTreeMap ℕ (Vec ℕ Global)) (r : Pages)
    → IsRangeOf nat_cmp (Included first) (Excluded last) m r → r ≡ []
    → (n : ℕ) → is_outside first last n ≡ false → lookup (is_at (nat_cmp n)) m.entries ≡ None
none_goes first last m r range none n is =
    let within = between first last n is in
    range.5 none n (
      no_after first n (nat_cmp first n) (ranks first n) within.0,
      sym (nat_cmp_is n last Less within.1),
    )

-- ---- zeros over bytes

module _ (at n : ℕ) (old : ℕ → ℕ) (k : ℕ) where
  zeros_in : at ≤ k → k < at + n → byte_over at (replicate n 0) old k ≡ 0
  zeros_in from to =
      over_in at (replicate n 0) old k from (omega (arith, length-replicate {A = ℕ} n 0))
      ∙ zeros_at (replicate n 0) n (k - at) refl

  zeros_after : at + n ≤ k → byte_over at (replicate n 0) old k ≡ old k
  zeros_after following =
      over_after at (replicate n 0) old k (omega (arith, length-replicate {A = ℕ} n 0))

-- zeros are in place of that many bytes, and the others are as they were
pub record IsZeroed (old new : ℕ → ℕ) (off len : ℕ) : Type 0 where
  pub zeros : (k : ℕ) → off ≤ k → k < off + len → new k ≡ 0
  pub before : (k : ℕ) → k < off → new k ≡ old k
  pub following : (k : ℕ) → off + len ≤ k → new k ≡ old k

-- so they do where they are written over the bytes, and only there
pub over_zeroed : (old new : ℕ → ℕ) (off len : ℕ)
    → ((k : ℕ) → new k ≡ byte_over off (replicate len 0) old k) → IsZeroed old new off len
over_zeroed old new off len over = record {
  zeros = λ k from to. over k ∙ zeros_in off len old k from to;
  before = λ k less. over k ∙ over_before off (replicate len 0) old k less;
  following = λ k more. over k ∙ zeros_after off len old k more;
}

pub zeroed_over : (old new : ℕ → ℕ) (off len : ℕ) → IsZeroed old new off len
    → (k : ℕ) → new k ≡ byte_over off (replicate len 0) old k
zeroed_over old new off len zeroed k =
    ⊎_elim
    (λ (less : k < off). zeroed.before k less ∙ sym (over_before off (replicate len 0) old k less))
    (λ (from : off ≤ k).
    ⊎_elim (λ (to : k < off + len). zeroed.zeros k from to ∙ sym (zeros_in off len old k from to))
    (λ (more : off + len ≤ k). zeroed.following k more ∙ sym (zeros_after off len old k more))
    (cases_lt k (off + len)))
    (cases_lt k off)

-- and where zeros follow on them, so do more
pub zeroed_more : (old mid new : ℕ → ℕ) (off len at count all : ℕ) → at ≡ off + len → all ≡ len + count
    → IsZeroed old mid off len → IsZeroed mid new at count → IsZeroed old new off all
zeroed_more old mid new off len at count all begins sum one two = record {
  zeros = λ k from to.
      ⊎_elim (λ (less : k < at). two.before k less ∙ one.zeros k from (omega (arith, begins, less)))
      (λ (more : at ≤ k). two.zeros k more (omega (arith, begins, sum, to)))
      (cases_lt k at);
  before = λ k less. two.before k (omega (arith, begins, less)) ∙ one.before k less;
  following = λ k more.
      two.following k (omega (arith, begins, sum, more)) ∙ one.following k (omega (arith, sum, more));
}

module _ (old cut : ℕ → ℕ) (off len first : ℕ) (begins : first ≡ div_ceil off 4096)
    (kept : (k : ℕ) → cut k ≡ cond (is_outside first ((off + len) / 4096) (k / 4096)) (old k) 0) where
  stays : (k : ℕ) → is_outside first ((off + len) / 4096) (k / 4096) ≡ true → cut k ≡ old k
  stays k is = kept k ∙ cond-true (is_outside first ((off + len) / 4096) (k / 4096)) (old k) 0 is

  -- no page lies in them whole
  pub zeroed_within : (new : ℕ → ℕ) → (off + len) / 4096 < first
      → ((k : ℕ) → new k ≡ byte_over off (replicate len 0) cut k) → IsZeroed old new off len
  zeroed_within new none over = record {
    zeros = λ k from to. over k ∙ zeros_in off len cut k from to;
    before = λ k less. over k ∙ over_before off (replicate len 0) cut k less ∙ same k;
    following = λ k more. over k ∙ zeros_after off len cut k more ∙ same k;
  }
    where
      same : (k : ℕ) → cut k ≡ old k
      same k =
          stays k
          (⊎_elim
          (λ (before : k / 4096 < first). outside_before first ((off + len) / 4096) (k / 4096) before)
          (λ (following : first ≤ k / 4096).
          outside_after first ((off + len) / 4096) (k / 4096) (omega arith))
          (cases_lt (k / 4096) first))

  -- some do, and zeros were written before and after these
  pub zeroed_around : (front new : ℕ → ℕ) → first ≤ (off + len) / 4096
      → ((k : ℕ) → front k ≡ byte_over off (replicate (first * 4096 - off) 0) cut k)
      → ((k : ℕ) → new k
      ≡ byte_over ((off + len) / 4096 * 4096) (replicate ((off + len) % 4096) 0) front k)
      → IsZeroed old new off len
  zeroed_around front new some fore aft = record {
    zeros = λ k from to.
        ⊎_elim
        (λ (head : k < first * 4096).
        ahead k (omega arith) ∙ fore k ∙ zeros_in off (first * 4096 - off) cut k from (omega arith))
        (λ (later : first * 4096 ≤ k).
        ⊎_elim
        (λ (whole : k < (off + len) / 4096 * 4096).
        ahead k whole ∙ fore k ∙ zeros_after off (first * 4096 - off) cut k (omega arith) ∙ kept k
        ∙ cond-false (is_outside first ((off + len) / 4096) (k / 4096)) (old k) 0
        (inside first ((off + len) / 4096) (k / 4096) (omega arith) (omega arith)))
        (λ (tail : (off + len) / 4096 * 4096 ≤ k).
        aft k ∙ zeros_in ((off + len) / 4096 * 4096) ((off + len) % 4096) front k tail (omega arith))
        (cases_lt k ((off + len) / 4096 * 4096)))
        (cases_lt k (first * 4096));
    before = λ k less.
        ahead k (omega arith) ∙ fore k
        ∙ over_before off (replicate (first * 4096 - off) 0) cut k less
        ∙ stays k (outside_before first ((off + len) / 4096) (k / 4096) (omega arith));
    following = λ k more.
        aft k
        ∙ zeros_after ((off + len) / 4096 * 4096) ((off + len) % 4096) front k (omega arith)
        ∙ fore k ∙ zeros_after off (first * 4096 - off) cut k (omega arith)
        ∙ stays k (outside_after first ((off + len) / 4096) (k / 4096) (omega arith));
  }
    where
      ahead : (k : ℕ) → k < (off + len) / 4096 * 4096 → new k ≡ front k
      ahead k less =
          aft k
          ∙ over_before ((off + len) / 4096 * 4096) (replicate ((off + len) % 4096) 0) front k less

-- ---- contents

-- zeros stay after the end
pub zeroed_after : (old new : ℕ → ℕ) (size off len : ℕ) → IsZeroed old new off len
    → ((k : ℕ) → size ≤ k → old k ≡ 0) → (k : ℕ) → size ≤ k → new k ≡ 0
zeroed_after old new size off len zeroed zero k past =
    ⊎_elim (λ (before : k < off). zeroed.before k before ∙ zero k past)
    (λ (from : off ≤ k).
    ⊎_elim (λ (to : k < off + len). zeroed.zeros k from to)
    (λ (following : off + len ≤ k). zeroed.following k following ∙ zero k past) (cases_lt k (off + len)))
    (cases_lt k off)

bytes_punched : (old new : Pages) (size off len : ℕ) → IsZeroed (byte_at old) (byte_at new) off len
    → bytes_of new size
    ≡ take off (bytes_of old size)
    ++ (replicate (min len (length (bytes_of old size) - off)) 0 ++ drop (off + len) (bytes_of old size))
bytes_punched old new size off len zeroed =
    let bytes = bytes_of old size in
    let long = length-bytes_of old size in
    let here = length-bytes_of new size in
    let n : ℕ = min len (length bytes - off) in
    let zeros = length-replicate {A = ℕ} n 0 in
    let front = length-take off bytes in
    let rest = length-drop (off + len) bytes in
    let tail = length-append (replicate n 0) (drop (off + len) bytes) in
    ext_get_or 0 (bytes_of new size) (take off bytes ++ (replicate n 0 ++ drop (off + len) bytes))
    (omega (arith, length-append (take off bytes) (replicate n 0 ++ drop (off + len) bytes)))
    (λ i inside.
    let within : i < size = omega arith in
    shown new size i within
    ∙ ⊎_elim
    (λ (before : i < off).
    zeroed.before i before
    ∙ sym (get_or_append_left (take off bytes) (replicate n 0 ++ drop (off + len) bytes) 0 i (omega arith)
    ∙ get_or-take off bytes i 0 before ∙ shown old size i within))
    (λ (from : off ≤ i).
    ⊎_elim
    (λ (to : i < off + len).
    zeroed.zeros i from to
    ∙ sym (get_or-append_right (take off bytes) (replicate n 0 ++ drop (off + len) bytes) off i 0
    (omega arith) from
    ∙ get_or_append_left (replicate n 0) (drop (off + len) bytes) 0 (i - off) (omega arith)
    ∙ zeros_at (replicate n 0) n (i - off) refl))
    (λ (following : off + len ≤ i).
    zeroed.following i following
    ∙ sym (get_or-append_right (take off bytes) (replicate n 0 ++ drop (off + len) bytes) off i 0
    (omega arith) from
    ∙ get_or-append_right (replicate n 0) (drop (off + len) bytes) n (i - off) 0 zeros (omega arith)
    ∙ get_or-drop (off + len) bytes (i - off - n) 0
    ∙ ap (λ j. get_or bytes j 0) (let same : off + len + (i - off - n) ≡ i = omega arith in same)
    ∙ shown old size i within))
    (cases_lt i (off + len)))
    (cases_lt i off))

pub contents_punched : (old new : Pages) (size off len first : ℕ) → first ≡ div_ceil off 4096
    → keys_of new ≡ filter (is_outside first ((off + len) / 4096)) (keys_of old)
    → IsZeroed (byte_at old) (byte_at new) off len
    → contents_of new size ≡ punched (contents_of old size) off len
contents_punched old new size off len first begins kept zeroed =
    both _ _ _ _ (bytes_punched old new size off len zeroed)
    (kept ∙ ap (λ f. filter (is_outside f ((off + len) / 4096)) (keys_of old)) begins)

pub contents_zeroed : (old new : Pages) (size off len : ℕ) → keys_of new ≡ keys_of old
    → ((k : ℕ) → byte_at new k ≡ byte_over off (replicate len 0) (byte_at old) k)
    → contents_of new size ≡ zeroed (contents_of old size) off len
contents_zeroed old new size off len kept over =
    both _ _ _ _ (bytes_punched old new size off len (over_zeroed (byte_at old) (byte_at new) off len over)) kept
