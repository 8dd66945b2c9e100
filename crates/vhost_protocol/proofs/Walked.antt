-- A walk goes through the descriptors of a chain, and of nothing else.
use Rattle.std.proofs.Common.{◌≡◌, ◌≢◌, ◌≤◌, ◌<◌, ◌-◌, ◌/◌, ◌%◌, ◌∙◌, ℕ, Bool, true, false, List, [], ◌∷◌, refl, ap, sym, subst, arith, Option, Some, None, inl, inr}
use Rattle.std.specs.Prelude.{not, nat_lt, if◌then◌else◌}
use Rattle.vhost_protocol.specs.Chains.{IsReason, entry, IsTable, AreLinked, AreFew, AreOrdered, HaveBytes, HavePieces, GoesOnBy, GoesThrough, IsRest, IsChain}
use Rattle.vhost_protocol.specs.Descriptors.{goes_on, is_writable, is_table}
use Rattle.vhost_protocol.specs.Regions.{place_of}
use Rattle.vhost_protocol.specs.Walks.{entry_size, piece_at, gone_on, at_place, begun, entered, at_table, step_at, table_walk}
use Rattle.vhost_protocol.specs.declared.chains.descriptor.Descriptor.{Descriptor}
use Rattle.vhost_protocol.specs.declared.chains.regions.Region.{Region}
use Rattle.vhost_protocol.specs.declared.chains.regions.Place.{Place}
use Rattle.vhost_protocol.specs.declared.chains.walk.Piece.{Piece}
use Rattle.vhost_protocol.specs.declared.chains.walk.Walk.{Walk}
use Rattle.vhost_protocol.specs.declared.numbers.ChainRefusal.{ChainRefusal}
use Rattle.vhost_protocol.specs.declared.numbers.ChainRefusal.TheVariants.{OutsideTable, LongerThanTable, Outside, PastEnd, ReadableAfterWritable, TooManyBytes, TableInTable, TableGoesOn, TableSize, TooManyEntries}
use Rattle.vhost_protocol.specs.declared.chains.walk.Step.{Step}
use Rattle.vhost_protocol.specs.declared.chains.walk.Step.TheVariants.{Last, More}
use Rattle.vhost_protocol.proofs.Steps.{split, lt_is, by_tests, LedToPiece, LedToTable, both_not, not_false, lt_not, left_more, next_inside, size_is, has_entries}

-- a walk that can take a step
pub record CanGo (w : Walk) : Type 0 where
  pub at : w.at < w.entries
  pub left : 1 ≤ w.left

-- what the steps after this one come to
abbrev On : List Region → List ℕ → List ℕ → List Descriptor → Step → List Piece → Type 0
On rs ind table ds s ps =
    GoesOnBy ind table (ds ≡ []) (λ t next rest. GoesThrough rs ind t next ds rest) s ps

-- ---- what a walk goes through is a chain

abbrev Forward : List Region → List ℕ → List Descriptor → Type 0
Forward rs ind ds = (table : List ℕ) (w : Walk) (ps : List Piece) → CanGo w → GoesThrough rs ind table w ds ps
    → IsRest rs ind table w ds ps

may_write : (w : Walk) (d : Descriptor) → LedToPiece w d → w.writable ≡ true → is_writable d ≡ true
may_write w d led written =
    not_false (is_writable d) (both_not w.writable (not (is_writable d)) led.order written)

last_is_rest : (rs : List Region) (ind table : List ℕ) (w : Walk) (d : Descriptor) (ds : List Descriptor)
    (ps : List Piece) (p : Place) → CanGo w → LedToPiece w d → place_of rs d.addr d.len ≡ Some p
    → d ≡ entry table w.at → goes_on d ≡ false → ds ≡ [] → ps ≡ piece_at d p ∷ []
    → IsRest rs ind table w (d ∷ ds) ps
last_is_rest rs ind table w d ds ps p can led place is last ended ps_is = record {
  linked = (can.at, is, inr (inr (led.piece, last, ended)));
  few = (can.left, inr (led.piece, subst (λ xs. AreFew (w.left - 1) xs) (sym ended) tt));
  ordered = inr (led.piece, may_write w d led, subst (λ xs. AreOrdered (is_writable d) xs) (sym ended) tt);
  bytes = inr (
    led.piece,
    lt_not w.rest d.len led.bytes,
    subst (λ xs. HaveBytes (w.rest - d.len) xs) (sym ended) tt,
  );
  placed = inr (led.piece, p, [], place, ps_is, subst (λ xs. HavePieces rs xs []) (sym ended) tt);
}

more_is_rest : (rs : List Region) (ind table : List ℕ) (w : Walk) (d : Descriptor) (ds : List Descriptor)
    (ps rest : List Piece) (p : Place) → CanGo w → LedToPiece w d → place_of rs d.addr d.len ≡ Some p
    → d ≡ entry table w.at → goes_on d ≡ true → ps ≡ piece_at d p ∷ rest
    → IsRest rs ind table (gone_on w d) ds rest → IsRest rs ind table w (d ∷ ds) ps
more_is_rest rs ind table w d ds ps rest p can led place is more ps_is ih = record {
  linked = (can.at, is, inr (inl (led.piece, more, ih.linked)));
  few = (can.left, inr (led.piece, ih.few));
  ordered = inr (led.piece, may_write w d led, ih.ordered);
  bytes = inr (led.piece, lt_not w.rest d.len led.bytes, ih.bytes);
  placed = inr (led.piece, p, rest, place, ps_is, ih.placed);
}

table_is_rest : (rs : List Region) (ind table : List ℕ) (w : Walk) (d : Descriptor) (ds : List Descriptor)
    (ps : List Piece) (p : Place) → CanGo w → LedToTable w d → place_of rs d.addr d.len ≡ Some p
    → d ≡ entry table w.at → IsRest rs ind ind (entered w d) ds ps → IsRest rs ind table w (d ∷ ds) ps
table_is_rest rs ind table w d ds ps p can led place is ih = record {
  linked = (can.at, is, inl (led.table, led.outside, led.alone, size_is w d led, ih.linked));
  few = (can.left, inl (led.table, ih.few));
  ordered = inl (led.table, ih.ordered);
  bytes = inl (led.table, ih.bytes);
  placed = inl (led.table, p, place, ih.placed);
}

-- the same from a descriptor of one kind on, by its step at the place that its bytes have
abbrev ForwardFrom : (Walk → Descriptor → Type 0)
    → (Walk → Descriptor → List Region → Option Place → Step) → List Region → List ℕ → Type 0
ForwardFrom Led step rs ind = (table : List ℕ) (w : Walk) (d : Descriptor) (ds : List Descriptor)
    (ps : List Piece) → CanGo w → Led w d → d ≡ entry table w.at → Forward rs ind ds
    → (o : Option Place) → place_of rs d.addr d.len ≡ o → On rs ind table ds (step w d rs o) ps
    → IsRest rs ind table w (d ∷ ds) ps

piece_forward : (rs : List Region) (ind : List ℕ) → ForwardFrom LedToPiece at_place rs ind
piece_forward rs ind table w d ds ps can led is ih None place on = absurd on
piece_forward rs ind table w d ds ps can led is ih (Some p) place on =
    split (λ s. On rs ind table ds s ps → IsRest rs ind table w (d ∷ ds) ps) (goes_on d)
    (More (piece_at d p) (gone_on w d)) (Last (piece_at d p))
    (λ g h. let more : 1 < w.left = left_more w d led g in
    more_is_rest rs ind table w d ds ps h.0 p can led place is g h.1
    (ih table (gone_on w d) h.0 (record { at = next_inside w d led g; left = omega arith }) h.2))
    (λ g h. last_is_rest rs ind table w d ds ps p can led place is g h.0 h.1)
    on

table_forward : (rs : List Region) (ind : List ℕ) → ForwardFrom LedToTable at_table rs ind
table_forward rs ind table w d ds ps can led is ih None place on = absurd on
table_forward rs ind table w d ds ps can led is ih (Some p) place on =
    let size : (d.len ≢ 0) × (d.len % entry_size ≡ 0) × (d.len / entry_size ≤ w.most) = size_is w d led in
    let some : 0 < d.len / entry_size = has_entries d.len size.0 size.1 in
    table_is_rest rs ind table w d ds ps p can led place is
    (ih ind (entered w d) ps (record { at = some; left = omega arith }) on)

pub forward : (rs : List Region) (ind : List ℕ) (ds : List Descriptor) → Forward rs ind ds
forward rs ind [] table w ps can goes = absurd goes
forward rs ind (d ∷ ds) table w ps can (is, goes) =
    by_tests (λ s. On rs ind table ds s ps → IsRest rs ind table w (d ∷ ds) ps) w d rs
    (λ r why h. absurd h)
    (λ led. piece_forward rs ind table w d ds ps can led is (forward rs ind ds) (place_of rs d.addr d.len) refl)
    (λ led. table_forward rs ind table w d ds ps can led is (forward rs ind ds) (place_of rs d.addr d.len) refl)
    goes

-- ---- a walk goes through a chain

few_table : (left : ℕ) (d : Descriptor) (ds : List Descriptor) → is_table d ≡ true → AreFew left (d ∷ ds)
    → AreFew (d.len / entry_size) ds
few_table left d ds t (l, inl (e, f)) = f
few_table left d ds t (l, inr (e, f)) = absurd (cc)

few_piece : (left : ℕ) (d : Descriptor) (ds : List Descriptor) → is_table d ≡ false → AreFew left (d ∷ ds)
    → AreFew (left - 1) ds
few_piece left d ds t (l, inl (e, f)) = absurd (cc)
few_piece left d ds t (l, inr (e, f)) = f

ordered_table : (written : Bool) (d : Descriptor) (ds : List Descriptor) → is_table d ≡ true
    → AreOrdered written (d ∷ ds) → AreOrdered written ds
ordered_table written d ds t (inl (e, o)) = o
ordered_table written d ds t (inr (e, m, o)) = absurd (cc)

ordered_piece : (written : Bool) (d : Descriptor) (ds : List Descriptor) → is_table d ≡ false
    → AreOrdered written (d ∷ ds) → (written ≡ true → is_writable d ≡ true) × AreOrdered (is_writable d) ds
ordered_piece written d ds t (inl (e, o)) = absurd (cc)
ordered_piece written d ds t (inr (e, m, o)) = (m, o)

bytes_table : (rest : ℕ) (d : Descriptor) (ds : List Descriptor) → is_table d ≡ true
    → HaveBytes rest (d ∷ ds) → HaveBytes rest ds
bytes_table rest d ds t (inl (e, h)) = h
bytes_table rest d ds t (inr (e, m, h)) = absurd (cc)

bytes_piece : (rest : ℕ) (d : Descriptor) (ds : List Descriptor) → is_table d ≡ false
    → HaveBytes rest (d ∷ ds) → (d.len ≤ rest) × HaveBytes (rest - d.len) ds
bytes_piece rest d ds t (inl (e, h)) = absurd (cc)
bytes_piece rest d ds t (inr (e, m, h)) = (m, h)

placed_table : (rs : List Region) (d : Descriptor) (ds : List Descriptor) (ps : List Piece) → is_table d ≡ true
    → HavePieces rs (d ∷ ds) ps
    → (p : Place) × (place_of rs d.addr d.len ≡ Some p) × HavePieces rs ds ps
placed_table rs d ds ps t (inl (e, p, is, rest)) = (p, is, rest)
placed_table rs d ds ps t (inr (e, p, r, is, ps_is, rest)) = absurd (cc)

placed_piece : (rs : List Region) (d : Descriptor) (ds : List Descriptor) (ps : List Piece) → is_table d ≡ false
    → HavePieces rs (d ∷ ds) ps
    → (p : Place) × (r : List Piece) × (place_of rs d.addr d.len ≡ Some p) × (ps ≡ piece_at d p ∷ r)
    × HavePieces rs ds r
placed_piece rs d ds ps t (inl (e, p, is, rest)) = absurd (cc)
placed_piece rs d ds ps t (inr (e, p, r, is, ps_is, rest)) = (p, r, is, ps_is, rest)

never_table : (rs : List Region) (w : Walk) (d : Descriptor) (p : Place) → is_table d ≡ true → w.indirect ≡ false
    → goes_on d ≡ false → IsTable w.most d → place_of rs d.addr d.len ≡ Some p
    → (r : ChainRefusal) → IsReason rs w d r → ⊥
never_table rs w d p t outside alone size place OutsideTable why = absurd (cc (why.0))
never_table rs w d p t outside alone size place LongerThanTable why = absurd (cc (why.0))
never_table rs w d p t outside alone size place Outside why = absurd (cc (why.0))
never_table rs w d p t outside alone size place PastEnd why = absurd (cc (why.0))
never_table rs w d p t outside alone size place ReadableAfterWritable why = absurd (cc (why.0))
never_table rs w d p t outside alone size place TooManyBytes why = absurd (cc (why.0))
never_table rs w d p t outside alone size place TableInTable why = absurd (cc (why.1))
never_table rs w d p t outside alone size place TableGoesOn why = absurd (cc (why.1))
never_table rs w d p t outside alone size place TableSize (e, inl none) = size.0 none
never_table rs w d p t outside alone size place TableSize (e, inr cut) = cut size.1
never_table rs w d p t outside alone size place TooManyEntries why = absurd (omega (arith, why.1, size.2))

never_piece : (rs : List Region) (w : Walk) (d : Descriptor) (p : Place) → is_table d ≡ false
    → (w.writable ≡ true → is_writable d ≡ true) → d.len ≤ w.rest
    → (goes_on d ≡ true → 1 < w.left) → (goes_on d ≡ true → d.next < w.entries)
    → place_of rs d.addr d.len ≡ Some p
    → (r : ChainRefusal) → IsReason rs w d r → ⊥
never_piece rs w d p t may bytes left next place OutsideTable why =
    let inside : d.next < w.entries = next why.1 in absurd (omega (arith, why.2))
never_piece rs w d p t may bytes left next place LongerThanTable why =
    let more : 1 < w.left = left why.1 in absurd (omega (arith, why.2))
never_piece rs w d p t may bytes left next place Outside why = absurd (cc (why.0))
never_piece rs w d p t may bytes left next place PastEnd why = absurd (cc (why.0))
never_piece rs w d p t may bytes left next place ReadableAfterWritable why =
    let writes : is_writable d ≡ true = may why.1 in absurd (cc (why.2))
never_piece rs w d p t may bytes left next place TooManyBytes why = absurd (omega (arith, why.1))
never_piece rs w d p t may bytes left next place TableInTable why = absurd (cc (why.0))
never_piece rs w d p t may bytes left next place TableGoesOn why = absurd (cc (why.0))
never_piece rs w d p t may bytes left next place TableSize why = absurd (cc (why.0))
never_piece rs w d p t may bytes left next place TooManyEntries why = absurd (cc (why.0))

abbrev Backward : List Region → List ℕ → List Descriptor → Type 0
Backward rs ind ds = (table : List ℕ) (w : Walk) (ps : List Piece) → IsRest rs ind table w ds ps
    → GoesThrough rs ind table w ds ps

-- the descriptors that follow one, where one does: it has an entry, and another one is left
follows : (most : ℕ) (ind : List ℕ) (inside : Bool) (table : List ℕ) (entries at left : ℕ) (ds : List Descriptor)
    → AreLinked most ind inside table entries at ds → AreFew left ds → (at < entries) × (1 ≤ left)
follows most ind inside table entries at left [] linked few = absurd linked
follows most ind inside table entries at left (d ∷ ds) linked few = (linked.0, few.0)

table_backward : (rs : List Region) (ind table : List ℕ) (w : Walk) (d : Descriptor) (ds : List Descriptor)
    (ps : List Piece) (p : Place) → is_table d ≡ true → w.indirect ≡ false → goes_on d ≡ false
    → IsTable w.most d → place_of rs d.addr d.len ≡ Some p
    → GoesThrough rs ind ind (entered w d) ds ps → On rs ind table ds (step_at w d rs) ps
table_backward rs ind table w d ds ps p t outside alone size place goes =
    by_tests (λ s. On rs ind table ds s ps) w d rs
    (λ r why. absurd (never_table rs w d p t outside alone size place r why))
    (λ led. let other : is_table d ≡ false = led.piece in absurd (cc))
    (λ led. subst (λ o. On rs ind table ds (at_table w d rs o) ps) (sym place) goes)

more_backward : (rs : List Region) (ind table : List ℕ) (w : Walk) (d : Descriptor) (ds : List Descriptor)
    (ps rest : List Piece) (p : Place) → is_table d ≡ false → goes_on d ≡ true
    → (w.writable ≡ true → is_writable d ≡ true) → d.len ≤ w.rest → 1 < w.left → d.next < w.entries
    → place_of rs d.addr d.len ≡ Some p → ps ≡ piece_at d p ∷ rest
    → GoesThrough rs ind table (gone_on w d) ds rest → On rs ind table ds (step_at w d rs) ps
more_backward rs ind table w d ds ps rest p t more may bytes left next place ps_is goes =
    by_tests (λ s. On rs ind table ds s ps) w d rs
    (λ r why. absurd (never_piece rs w d p t may bytes (λ _. left) (λ _. next) place r why))
    (λ led. subst (λ o. On rs ind table ds (at_place w d rs o) ps) (sym place)
    (split (λ s. On rs ind table ds s ps) (goes_on d) (More (piece_at d p) (gone_on w d)) (Last (piece_at d p))
    (λ g. (rest, ps_is, goes)) (λ g. absurd (cc))))
    (λ led. let other : is_table d ≡ true = led.table in absurd (cc))

last_backward : (rs : List Region) (ind table : List ℕ) (w : Walk) (d : Descriptor) (ds : List Descriptor)
    (ps : List Piece) (p : Place) → is_table d ≡ false → goes_on d ≡ false
    → (w.writable ≡ true → is_writable d ≡ true) → d.len ≤ w.rest
    → place_of rs d.addr d.len ≡ Some p → ds ≡ [] → ps ≡ piece_at d p ∷ []
    → On rs ind table ds (step_at w d rs) ps
last_backward rs ind table w d ds ps p t last may bytes place ended ps_is =
    by_tests (λ s. On rs ind table ds s ps) w d rs
    (λ r why. absurd (never_piece rs w d p t may bytes (λ g. absurd (cc)) (λ g. absurd (cc)) place r why))
    (λ led. subst (λ o. On rs ind table ds (at_place w d rs o) ps) (sym place)
    (split (λ s. On rs ind table ds s ps) (goes_on d) (More (piece_at d p) (gone_on w d)) (Last (piece_at d p))
    (λ g. absurd (cc)) (λ g. (ended, ps_is))))
    (λ led. let other : is_table d ≡ true = led.table in absurd (cc))

none_placed : (rs : List Region) (ds : List Descriptor) (r : List Piece) → ds ≡ [] → HavePieces rs ds r → r ≡ []
none_placed rs [] [] ended placed = refl
none_placed rs [] (p ∷ r) ended placed = absurd placed
none_placed rs (d ∷ ds) r ended placed = absurd (cc)

pub backward : (rs : List Region) (ind : List ℕ) (ds : List Descriptor) → Backward rs ind ds
backward rs ind [] table w ps r = absurd r.linked
backward rs ind (d ∷ ds) table w ps r = (
  r.linked.1,
  elim r.linked.2 as (λ _. On rs ind table ds (step_at w d rs) ps) [
    | inl h ↦
        let q = placed_table rs d ds ps h.0 r.placed in
        table_backward rs ind table w d ds ps q.0 h.0 h.1 h.2 h.3 q.1
        (backward rs ind ds ind (entered w d) ps (record {
          linked = h.4;
          few = few_table w.left d ds h.0 r.few;
          ordered = ordered_table w.writable d ds h.0 r.ordered;
          bytes = bytes_table w.rest d ds h.0 r.bytes;
          placed = q.2;
        }))
    | inr (inl h) ↦
        let q = placed_piece rs d ds ps h.0 r.placed in
        let o = ordered_piece w.writable d ds h.0 r.ordered in
        let b = bytes_piece w.rest d ds h.0 r.bytes in
        let few : AreFew (w.left - 1) ds = few_piece w.left d ds h.0 r.few in
        let f : (d.next < w.entries) × (1 ≤ w.left - 1) =
        follows w.most ind w.indirect table w.entries d.next (w.left - 1) ds h.2 few in
        more_backward rs ind table w d ds ps q.1 q.0 h.0 h.1 o.0 b.0 (omega (arith, f.1)) f.0 q.2 q.3
        (backward rs ind ds table (gone_on w d) q.1 (record {
          linked = h.2;
          few = few;
          ordered = o.1;
          bytes = b.1;
          placed = q.4;
        }))
    | inr (inr h) ↦
        let q = placed_piece rs d ds ps h.0 r.placed in
        let o = ordered_piece w.writable d ds h.0 r.ordered in
        let b = bytes_piece w.rest d ds h.0 r.bytes in
        let none : q.1 ≡ [] = none_placed rs ds q.1 h.2 q.4 in
        last_backward rs ind table w d ds ps q.0 h.0 h.1 o.0 b.0 q.2 h.2
        (q.3 ∙ ap (λ xs. piece_at d q.0 ∷ xs) none)
  ],
)

-- ---- from the begin on

may_begin : (b : Bool) (size most head : ℕ) (w : Walk) → b ≡ nat_lt head size
    → (if b then Some (record (table_walk size most) { at = head }) else None) ≡ Some w
    → (w ≡ record (table_walk size most) { at = head }) × (head < size)
may_begin true size most head w test is = (cc, lt_is head size (sym test))
may_begin false size most head w test is = absurd (cc)

pub chain_of : (rs : List Region) (ind table : List ℕ) (size most head : ℕ) (w : Walk) (ds : List Descriptor)
    (ps : List Piece) → begun size most head ≡ Some w → GoesThrough rs ind table w ds ps
    → IsChain rs ind table size most head ds ps
chain_of rs ind table size most head w ds ps is goes =
    let b = may_begin (nat_lt head size) size most head w refl is in
    let r = forward rs ind ds table _ ps (record { at = b.1; left = omega (arith, b.1) })
    (subst (λ v. GoesThrough rs ind table v ds ps) b.0 goes) in
    record { linked = r.linked; few = r.few; ordered = r.ordered; bytes = r.bytes; placed = r.placed }

pub goes_along : (rs : List Region) (ind table : List ℕ) (size most head : ℕ) (w : Walk) (ds : List Descriptor)
    (ps : List Piece) → begun size most head ≡ Some w → IsChain rs ind table size most head ds ps
    → GoesThrough rs ind table w ds ps
goes_along rs ind table size most head w ds ps is c =
    let b = may_begin (nat_lt head size) size most head w refl is in
    subst (λ v. GoesThrough rs ind table v ds ps) (sym b.0)
    (backward rs ind ds table _ ps
    (record { linked = c.linked; few = c.few; ordered = c.ordered; bytes = c.bytes; placed = c.placed }))
