-- What each step of a walk is, by the tests that lead to it.
use Rattle.std.proofs.Common.{◌≡◌, ◌≢◌, ◌⊎◌, ◌∙◌, ◌≤◌, ◌<◌, ◌+◌, ◌-◌, ◌*◌, ◌/◌, ◌%◌, ℕ, Bool, true, false, List, [], ◌∷◌, refl, sym, subst, arith, nat_le, nat_lt, Option, Some, None, inl, inr}
use Rattle.std.specs.Prelude.{◌==◌, ◌&&◌, ◌||◌, not, if◌then◌else◌, is_some, ⊤}
use Rattle.std.proofs.lemmas.Bool.Decides.{nat_tests}
use Rattle.vhost_protocol.specs.Chains.{Lie, IsReason, IsWithin}
use Rattle.vhost_protocol.specs.Descriptors.{goes_on, is_writable, is_table}
use Rattle.vhost_protocol.specs.Regions.{holds, place_from, place_of}
use Rattle.vhost_protocol.specs.Walks.{entry_size, piece_at, gone_on, at_place, piece_step, at_table, table_step, step_at}
use Rattle.vhost_protocol.specs.declared.chains.descriptor.Descriptor.{Descriptor}
use Rattle.vhost_protocol.specs.declared.chains.regions.Region.{Region}
use Rattle.vhost_protocol.specs.declared.chains.regions.Place.{Place}
use Rattle.vhost_protocol.specs.declared.chains.walk.Walk.{Walk}
use Rattle.vhost_protocol.specs.declared.numbers.ChainRefusal.{ChainRefusal}
use Rattle.vhost_protocol.specs.declared.numbers.ChainRefusal.TheVariants.{OutsideTable, LongerThanTable, Outside, PastEnd, ReadableAfterWritable, TooManyBytes, TableInTable, TableGoesOn, TableSize, TooManyEntries}
use Rattle.vhost_protocol.specs.declared.chains.walk.Step.{Step}
use Rattle.vhost_protocol.specs.declared.chains.walk.Step.TheVariants.{Last, More, Refused}

-- what holds of both branches holds of the choice
pub split : {S : Type 0} (P : S → Type 0) (b : Bool) (x y : S) → (b ≡ true → P x) → (b ≡ false → P y)
    → P (if b then x else y)
split P true x y t f = t refl
split P false x y t f = f refl

-- where bytes lie that a region has
held : (r : Region) (addr len : ℕ) → holds r addr len ≡ true
    → (r.address + (addr - r.address) ≡ addr) × (addr - r.address + len ≤ r.size)
held r addr len is = (grind (arith, nat_tests, is), grind (arith, nat_tests, is))

-- where bytes lie that were found, after `i` regions
abbrev Found : (i : ℕ) → List Region → (addr len : ℕ) → Option Place → Type 0
Found i rs addr len None = ⊤
Found i rs addr len (Some p) = (k : ℕ) × (p.region ≡ i + k) × Lie rs addr len k p.offset

further : (i : ℕ) (r : Region) (rs : List Region) (addr len : ℕ) (o : Option Place) → Found (i + 1) rs addr len o
    → Found i (r ∷ rs) addr len o
further i r rs addr len None f = tt
further i r rs addr len (Some p) (k, is, lie) = (1 + k, omega arith, inr (k, refl, lie))

found : (i : ℕ) (rs : List Region) (addr len : ℕ) → Found i rs addr len (place_from i rs addr len)
found i [] addr len = tt
found i (r ∷ rs) addr len =
    split (λ o. Found i (r ∷ rs) addr len o) (holds r addr len)
    (Some (record { region = i; offset = addr - r.address })) (place_from (i + 1) rs addr len)
    (λ is. (0, omega arith, inl (refl, (held r addr len is).0, (held r addr len is).1)))
    (λ is. further i r rs addr len (place_from (i + 1) rs addr len) (found (i + 1) rs addr len))

-- the same, of all regions
pub lie_there : (rs : List Region) (addr len : ℕ) (p : Place) → place_of rs addr len ≡ Some p
    → Lie rs addr len p.region p.offset
lie_there rs addr len p is =
    let f : Found 0 rs addr len (Some p) = subst (λ o. Found 0 rs addr len o) is (found 0 rs addr len) in
    let same : f.0 ≡ p.region = omega (arith, f.1) in
    subst (λ k. Lie rs addr len k p.offset) same f.2

-- ---- tests

pub both_not : (a b : Bool) → (a && b) ≡ false → a ≡ true → b ≡ false
both_not true b is a = is
both_not false b is a = absurd (cc)

pub neither_left : (a b : Bool) → (a || b) ≡ false → a ≡ false
neither_left true b is = is
neither_left false b is = refl

pub neither_right : (a b : Bool) → (a || b) ≡ false → b ≡ false
neither_right true b is = absurd (cc)
neither_right false b is = is

pub not_false : (a : Bool) → not a ≡ false → a ≡ true
not_false true is = refl
not_false false is = absurd (cc)

pub eq_is : (a b : ℕ) → (a == b) ≡ true → a ≡ b
eq_is a b is = grind (arith, nat_tests, is)

pub eq_not : (a b : ℕ) → (a == b) ≡ false → a ≢ b
eq_not a b is e = grind (arith, nat_tests, is)

pub le_not : (a b : ℕ) → nat_le a b ≡ false → b < a
le_not a b is = grind (arith, nat_tests, is)

pub lt_not : (a b : ℕ) → nat_lt a b ≡ false → b ≤ a
lt_not a b is = grind (arith, nat_tests, is)

-- ---- steps, by their tests

abbrev pub after_left : Walk → Descriptor → List Region → Step
after_left w d rs =
    if goes_on d && nat_le w.entries d.next then Refused OutsideTable
    else at_place w d rs (place_of rs d.addr d.len)

abbrev pub after_bytes : Walk → Descriptor → List Region → Step
after_bytes w d rs = if goes_on d && nat_le w.left 1 then Refused LongerThanTable else after_left w d rs

abbrev pub after_order : Walk → Descriptor → List Region → Step
after_order w d rs = if nat_lt w.rest d.len then Refused TooManyBytes else after_bytes w d rs

abbrev pub after_size : Walk → Descriptor → List Region → Step
after_size w d rs =
    if nat_lt w.most (d.len / entry_size) then Refused TooManyEntries
    else at_table w d rs (place_of rs d.addr d.len)

abbrev pub after_alone : Walk → Descriptor → List Region → Step
after_alone w d rs =
    if d.len == 0 || not (d.len % entry_size == 0) then Refused TableSize else after_size w d rs

abbrev pub after_outside : Walk → Descriptor → List Region → Step
after_outside w d rs = if goes_on d then Refused TableGoesOn else after_alone w d rs

-- What leads to a step of a piece, and of a table.
pub record LedToPiece (w : Walk) (d : Descriptor) : Type 0 where
  pub piece : is_table d ≡ false
  pub order : (w.writable && not (is_writable d)) ≡ false
  pub bytes : nat_lt w.rest d.len ≡ false
  pub left : (goes_on d && nat_le w.left 1) ≡ false
  pub next : (goes_on d && nat_le w.entries d.next) ≡ false

pub record LedToTable (w : Walk) (d : Descriptor) : Type 0 where
  pub table : is_table d ≡ true
  pub outside : w.indirect ≡ false
  pub alone : goes_on d ≡ false
  pub size : (d.len == 0 || not (d.len % entry_size == 0)) ≡ false
  pub few : nat_lt w.most (d.len / entry_size) ≡ false

pub both_left : (a b : Bool) → (a && b) ≡ true → a ≡ true
both_left true b is = refl
both_left false b is = is

pub both_right : (a b : Bool) → (a && b) ≡ true → b ≡ true
both_right true b is = is
both_right false b is = absurd (cc)

pub not_true : (a : Bool) → not a ≡ true → a ≡ false
not_true true is = absurd (cc)
not_true false is = refl

pub le_is : (a b : ℕ) → nat_le a b ≡ true → a ≤ b
le_is a b is = grind (arith, nat_tests, is)

pub lt_is : (a b : ℕ) → nat_lt a b ≡ true → a < b
lt_is a b is = grind (arith, nat_tests, is)

wrong_size : (a b : Bool) (x y : ℕ) → a ≡ (x == 0) → b ≡ (y == 0) → (a || not b) ≡ true → (x ≡ 0) ⊎ (y ≢ 0)
wrong_size true b x y zero_is whole_is is = inl (eq_is x 0 (sym zero_is))
wrong_size false b x y zero_is whole_is is = inr (eq_not y 0 (sym whole_is ∙ not_true b is))

-- what holds of a refusal for its reason, and of both kinds of steps by what led to them, holds of a step
pub by_tests : (P : Step → Type 0) (w : Walk) (d : Descriptor) (rs : List Region)
    → ((r : ChainRefusal) → IsReason rs w d r → P (Refused r))
    → (LedToPiece w d → P (at_place w d rs (place_of rs d.addr d.len)))
    → (LedToTable w d → P (at_table w d rs (place_of rs d.addr d.len)))
    → P (step_at w d rs)
by_tests P w d rs no_chain piece table =
    split P (is_table d) (table_step w d rs) (piece_step w d rs)
    (λ t. split P w.indirect (Refused TableInTable) (after_outside w d rs) (λ h. no_chain TableInTable (t, h))
    (λ o. split P (goes_on d) (Refused TableGoesOn) (after_alone w d rs) (λ h. no_chain TableGoesOn (t, h))
    (λ a. split P (d.len == 0 || not (d.len % entry_size == 0)) (Refused TableSize) (after_size w d rs)
    (λ h. no_chain TableSize (
      t,
      wrong_size (d.len == 0) (d.len % entry_size == 0) d.len (d.len % entry_size) refl refl h,
    ))
    (λ s. split P (nat_lt w.most (d.len / entry_size)) (Refused TooManyEntries)
    (at_table w d rs (place_of rs d.addr d.len)) (λ h. no_chain TooManyEntries (t, lt_is w.most (d.len / entry_size) h))
    (λ f. table (record { table = t; outside = o; alone = a; size = s; few = f }))))))
    (λ t. split P (w.writable && not (is_writable d)) (Refused ReadableAfterWritable) (after_order w d rs)
    (λ h. no_chain ReadableAfterWritable (
      t,
      both_left w.writable (not (is_writable d)) h,
      not_true (is_writable d) (both_right w.writable (not (is_writable d)) h),
    ))
    (λ o. split P (nat_lt w.rest d.len) (Refused TooManyBytes) (after_bytes w d rs) (λ h. no_chain TooManyBytes (t, lt_is w.rest d.len h))
    (λ b. split P (goes_on d && nat_le w.left 1) (Refused LongerThanTable) (after_left w d rs)
    (λ h. no_chain LongerThanTable (
      t,
      both_left (goes_on d) (nat_le w.left 1) h,
      le_is w.left 1 (both_right (goes_on d) (nat_le w.left 1) h),
    ))
    (λ l. split P (goes_on d && nat_le w.entries d.next) (Refused OutsideTable)
    (at_place w d rs (place_of rs d.addr d.len)) (λ h. no_chain OutsideTable (
      t,
      both_left (goes_on d) (nat_le w.entries d.next) h,
      le_is w.entries d.next (both_right (goes_on d) (nat_le w.entries d.next) h),
    ))
    (λ n. piece (record { piece = t; order = o; bytes = b; left = l; next = n }))))))

-- ---- each step is within what its walk may

pub left_more : (w : Walk) (d : Descriptor) → LedToPiece w d → goes_on d ≡ true → 1 < w.left
left_more w d led g = le_not w.left 1 (both_not (goes_on d) (nat_le w.left 1) led.left g)

pub next_inside : (w : Walk) (d : Descriptor) → LedToPiece w d → goes_on d ≡ true → d.next < w.entries
next_inside w d led g = le_not w.entries d.next (both_not (goes_on d) (nat_le w.entries d.next) led.next g)

why_unplaced : (rs : List Region) (w : Walk) (d : Descriptor) (o : Option Place) → place_of rs d.addr d.len ≡ None
    → place_of rs d.addr 1 ≡ o → IsReason rs w d (if is_some o then PastEnd else Outside)
why_unplaced rs w d None is first = (is, first)
why_unplaced rs w d (Some p) is first = (is, p, first)

piece_within : (rs : List Region) (w : Walk) (d : Descriptor) → LedToPiece w d → (o : Option Place)
    → place_of rs d.addr d.len ≡ o → IsWithin rs w d (at_place w d rs o)
piece_within rs w d led None is = why_unplaced rs w d (place_of rs d.addr 1) is refl
piece_within rs w d led (Some p) is =
    let lie = lie_there rs d.addr d.len p is in
    split (λ s. IsWithin rs w d s) (goes_on d) (More (piece_at d p) (gone_on w d)) (Last (piece_at d p))
    (λ g. let more : 1 < w.left = left_more w d led g in
    (refl, lie, next_inside w d led g, refl, (omega arith), refl))
    (λ g. (refl, lie))

pub size_is : (w : Walk) (d : Descriptor) → LedToTable w d
    → (d.len ≢ 0) × (d.len % entry_size ≡ 0) × (d.len / entry_size ≤ w.most)
size_is w d led = (
  eq_not d.len 0 (neither_left (d.len == 0) (not (d.len % entry_size == 0)) led.size),
  eq_is (d.len % entry_size) 0 (not_false (d.len % entry_size == 0)
      (neither_right (d.len == 0) (not (d.len % entry_size == 0)) led.size)),
  lt_not w.most (d.len / entry_size) led.few,
)

pub has_entries : (len : ℕ) → len ≢ 0 → len % 16 ≡ 0 → 0 < len / 16
has_entries len some whole = omega arith

table_within : (rs : List Region) (w : Walk) (d : Descriptor) → LedToTable w d → (o : Option Place)
    → place_of rs d.addr d.len ≡ o → IsWithin rs w d (at_table w d rs o)
table_within rs w d led None is = why_unplaced rs w d (place_of rs d.addr 1) is refl
table_within rs w d led (Some p) is =
    let lie : Lie rs d.addr d.len p.region p.offset = lie_there rs d.addr d.len p is in
    let size : (d.len ≢ 0) × (d.len % entry_size ≡ 0) × (d.len / entry_size ≤ w.most) = size_is w d led in
    let whole : d.len ≡ d.len / entry_size * entry_size = omega (arith, size.1) in (
      subst (λ n. Lie rs d.addr n p.region p.offset) whole lie,
      has_entries d.len size.0 size.1,
      size.2,
      refl,
      led.outside,
      refl,
    )

pub within : (rs : List Region) (w : Walk) (d : Descriptor) → IsWithin rs w d (step_at w d rs)
within rs w d =
    by_tests (λ s. IsWithin rs w d s) w d rs (λ r why. why)
    (λ led. piece_within rs w d led (place_of rs d.addr d.len) refl)
    (λ led. table_within rs w d led (place_of rs d.addr d.len) refl)
