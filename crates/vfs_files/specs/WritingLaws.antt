-- What is known of writes of bytes in memory, and of a transfer into them, which writes all that it
-- can at its first call.
use Rattle.std.proofs.Common.{◌≡◌, ◌≤◌, ◌<◌, ◌+◌, ◌-◌, ◌^◌, ℕ, List, [], ◌∷◌, length, take, min, max, Option, Result, Ok, Err, refl, sym, ap, ◌∙◌, arith, length-append, length-take, length-drop, add-zero}
use Rattle.std.proofs.lemmas.List.{take_min, nil_from_length, length-replicate}
use Rattle.std.proofs.lemmas.List.Sums.{sum_by-cons}
use Rattle.vfs_segments.specs.Memory.{with_bytes_at}
use Rattle.vfs_segments.specs.declared.file.WritevFlags.{WritevFlags}
use Rattle.vfs_files.specs.Transfers.{Ending, Finished, Stuck, Broken, Past, outcome, count_moved, writes_of, Goes, EndsBy, Transfers}
use Rattle.vfs_files.specs.declared.bytes_mut.BytesMut.{BytesMut}
use Rattle.vfs_files.specs.Bytes.{fitting, lengthened, written, Writes}
use Rattle.vfs_files.specs.BytesMut.{bytes_held, Keeps, WritesFile}

-- bytes that are written within a list leave its length
length-with_bytes_at : (at : ℕ) (w xs : List ℕ) → at + length w ≤ length xs
    → length (with_bytes_at at w xs) ≡ length xs
unfolding with_bytes_at
length-with_bytes_at at w xs h = simp (length-append, length-take, length-drop) (omega arith)

-- bytes that are lengthened are at least that many
length-lengthened : (xs : List ℕ) (len : ℕ) → length (lengthened xs len) ≡ max (length xs) len
length-lengthened xs len = simp (length-append, length-replicate) (omega arith)

-- bytes that end within a limit, written over others, make these no longer than that
length-written : (most off : ℕ) (old part : List ℕ) → length part ≤ most - off
    → length (written old off part) ≤ max (length old) most
length-written most off old [] fits = omega arith
length-written most off old (b ∷ bs) fits =
    let size = length-lengthened old (off + length (b ∷ bs)) in
    let same = length-with_bytes_at off (b ∷ bs) (lengthened old (off + length (b ∷ bs))) (omega (
      arith,
      size,
    )) in
    omega (arith, same, size, fits)

-- a write leaves no more bytes than there were, or than its limit
pub length-Writes :
    (most : ℕ) (old bytes : List ℕ) (off : ℕ) (answer : Result ℕ (Option ℕ)) (new : List ℕ)
    → Writes most old bytes off answer new → length new ≤ max (length old) most
length-Writes most old bytes off (Ok count) new w =
    let fits : length (fitting most off bytes) ≤ most - off =
    omega (arith, length-take (most - off) bytes) in
    omega (arith, ap length w.1, length-written most off old (fitting most off bytes) fits)
length-Writes most old bytes off (Err fault) new w = omega (arith, ap length w.2)

-- what a write of the file may do, whatever the flags are
abbrev pub gives :
    BytesMut → List ℕ → ℕ → Option WritevFlags → Result ℕ (Option ℕ) → BytesMut → Type 0
gives old bytes off flags answer new = WritesFile old bytes off answer new

-- how many bytes a call answers
abbrev counted : Result (List ℕ) (Option ℕ) → Result ℕ (Option ℕ)
counted (Ok part) = Ok (length part)
counted (Err fault) = Err fault

-- nothing fits past the limit
none_fits : (most off : ℕ) (bytes : List ℕ) → most ≤ off → fitting most off bytes ≡ []
none_fits most off bytes past = nil_from_length (fitting most off bytes) (omega (
  arith,
  length-take (most - off) bytes,
))

-- a write past the limit moves nothing, and has no fault
write_past : (most : ℕ) (old bytes : List ℕ) (off : ℕ) (answer : Result ℕ (Option ℕ))
    (new : List ℕ) → most ≤ off
    → Writes most old bytes off answer new → (answer ≡ Ok 0) × (new ≡ old)
write_past most old bytes off (Ok n) new past w =
    let h = rw (none_fits most off bytes past) at w in
    (ap (λ k. Ok k) h.0, h.1)
write_past most old bytes off (Err fault) new past w =
    let h = rw (none_fits most off bytes past) at w in
    let some = h.1.some in
    absurd (omega arith)

-- a write of nothing
write_none : (most : ℕ) (old bytes : List ℕ) (off : ℕ) → length bytes ≡ 0
    → Writes most old bytes off (Ok 0) old
write_none most old bytes off none =
    let e : fitting most off bytes ≡ [] = nil_from_length (fitting most off bytes) (omega (
      arith,
      length-take (most - off) bytes,
    )) in
    rw e (refl, refl)

-- a file that is the same one keeps all
same_keeps : (old new : BytesMut) → new ≡ old → Keeps old new
same_keeps old new e = record {
  vector = ap (λ (f : BytesMut). f.bytes.ghost_name) e;
  limit = ap (λ (f : BytesMut). f.most) e;
}

keeps_then : (old middle new : BytesMut) → Keeps old middle → Keeps middle new → Keeps old new
keeps_then old middle new a b = record { vector = b.vector ∙ a.vector; limit = b.limit ∙ a.limit }

module _ (count off : ℕ) (left : List ℕ) (flags : Option WritevFlags) where
  -- the first call is a write of all that is to be moved
  first_call : (old : BytesMut) (answer : Result (List ℕ) (Option ℕ)) (new : BytesMut)
      → writes_of gives left flags 0 old (off + 0) (min count (length left) - 0) answer new
      → WritesFile old (take count left) off (counted answer) new
  first_call old (Ok part) new h =
      let lent : take (min count (length left) - 0) left ≡ take count left =
      ap (λ k. take k left) (omega arith) ∙ take_min count left in
      rw (add-zero off, lent) at h.0
  first_call old (Err fault) new h =
      let lent : take (min count (length left) - 0) left ≡ take count left =
      ap (λ k. take k left) (omega arith) ∙ take_min count left in
      rw (add-zero off, lent) at h

  -- after the first call that moved something, one that has bytes to move begins at the limit
  at_limit : (most : ℕ) (part : List ℕ) (m : ℕ) → m ≡ length part
      → length part ≡ length (fitting most off (take count left))
      → m < min count (length left) → most ≤ off + m
  at_limit most part m same fits short =
      omega (arith, length-take (most - off) (take count left), length-take count left)

  -- and so it moves nothing
  record MovesNone (old : BytesMut) (answer : Result (List ℕ) (Option ℕ)) (new : BytesMut)
      : Type 0 where
    none : counted answer ≡ Ok 0
    same : bytes_held new ≡ bytes_held old
    keeps : Keeps old new

  later_call : (m : ℕ) (old : BytesMut) (answer : Result (List ℕ) (Option ℕ)) (new : BytesMut)
      (len : ℕ) → old.most ≤ off + m
      → writes_of gives left flags m old (off + m) len answer new → MovesNone old answer new
  later_call m old (Ok part) new len past h =
      let w =
      write_past old.most (bytes_held old) _ (off + m) (Ok (length part)) (bytes_held new) past h.0.0 in
      record { none = w.0; same = w.1; keeps = h.0.1 }
  later_call m old (Err fault) new len past h =
      let w = write_past old.most (bytes_held old) _ (off + m) (Err fault) (bytes_held new) past h.0 in
      record { none = w.0; same = w.1; keeps = h.1 }

  -- what the ending of a transfer leaves whose first call moved something
  after_one : (old : BytesMut) (part : List ℕ) (one middle new : BytesMut) (m : ℕ)
      (ending : Ending)
      → WritesFile old (take count left) off (Ok (length part)) one → middle ≡ one
      → m ≡ length part
      → EndsBy (writes_of gives left flags) count (length left) off m middle ending new
      → WritesFile old (take count left) off (outcome m ending) new
  after_one old part one middle new m Finished w mid same e =
      let end = e.1 ∙ mid in (
        (same ∙ w.0.0, ap bytes_held end ∙ w.0.1),
        keeps_then old one new w.1 (same_keeps one new end),
      )
  after_one old part one middle new m Stuck w mid same e =
      let past = at_limit old.most part m same w.0.0 (omega (arith, e.0)) in
      let kept = keeps_then old one middle w.1 (same_keeps one middle mid) in
      let l = later_call m middle (Ok []) new _ (omega (arith, past, kept.limit)) e.1 in (
        (same ∙ w.0.0, l.same ∙ ap bytes_held mid ∙ w.0.1),
        keeps_then old middle new kept l.keeps,
      )
  after_one old part one middle new m (Broken fault) w mid same e =
      let past = at_limit old.most part m same w.0.0 (omega (arith, e.0)) in
      let kept = keeps_then old one middle w.1 (same_keeps one middle mid) in
      let l = later_call m middle (Err fault) new _ (omega (arith, past, kept.limit)) e.1 in
      cc (l.none)
  after_one old part one middle new m (Past p) w mid same e =
      let past = at_limit old.most part m same w.0.0 (omega (arith, e.0.call.0)) in
      let kept = keeps_then old one middle w.1 (same_keeps one middle mid) in
      let l = later_call m middle (Ok p) new _ (omega (arith, past, kept.limit)) e.0.call.1 in
      let none : length p ≡ 0 = cc (l.none) in
      let some = e.0.some in
      absurd (omega arith)

  -- so a transfer is one write, of all that is to be moved
  write_cases : (old middle new : BytesMut) (row : List (List ℕ × BytesMut)) (ending : Ending)
      → old.most < 2 ^ 64 → Goes (writes_of gives left flags) count (length left) off 0 old row middle
      → EndsBy (writes_of gives left flags) count (length left) off (count_moved row) middle ending new
      → WritesFile old (take count left) off (outcome (count_moved row) ending) new
  write_cases old middle new [] Finished low g e =
      let none : length (take count left) ≡ 0 = omega (arith, e.0, length-take count left) in
      let same : old ≡ new = sym (e.1 ∙ g) in
      rw (← same) (
        write_none old.most (bytes_held old) (take count left) off none,
        same_keeps old old refl,
      )
  write_cases old middle new [] Stuck low g e =
      rw g at (first_call middle (Ok []) new e.1)
  write_cases old middle new [] (Broken fault) low g e =
      rw g at (first_call middle (Err fault) new e.1)
  write_cases old middle new [] (Past part) low g e =
      let w = first_call middle (Ok part) new e.0.call.1 in
      let limit : middle.most ≡ old.most = ap (λ (f : BytesMut). f.most) g in
      let far = e.1 in
      let some = e.0.some in
      absurd (omega (arith, w.0.0, limit, length-take (middle.most - off) (take count left)))
  write_cases old middle new (c ∷ []) ending low g e =
      let w = first_call old (Ok c.0) c.1 g.0.call.1 in
      let sum : count_moved (c ∷ []) ≡ length c.0 =
      sum_by-cons (λ (x : List ℕ × BytesMut). length x.0) c [] ∙ add-zero (length c.0) in
      after_one old c.0 c.1 middle new (count_moved (c ∷ [])) ending w g.2 sum e
  write_cases old middle new (c ∷ (d ∷ ds)) ending low g e =
      let w = first_call old (Ok c.0) c.1 g.0.call.1 in
      let m : ℕ = 0 + length c.0 in
      let more : m < min count (length left) = omega (arith, g.2.0.call.0) in
      let past = at_limit old.most c.0 m (omega arith) w.0.0 more in
      let l =
      later_call m c.1 (Ok d.0) d.1 _ (omega (arith, past, w.1.limit)) g.2.0.call.1 in
      let none : length d.0 ≡ 0 = cc (l.none) in
      let some = g.2.0.some in
      absurd (omega arith)

  -- the same of the whole
  pub write_transfer : (old : BytesMut) (moved : List ℕ) (new : BytesMut)
      (result : Result ℕ (Option ℕ))
      → old.most < 2 ^ 64
      → Transfers (writes_of gives left flags) count (length left) off old moved result new
      → WritesFile old (take count left) off result new
  write_transfer old moved new result low t =
      rw t.answered (write_cases old t.middle new t.row t.ending low t.goes t.ends)
