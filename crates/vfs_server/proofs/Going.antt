-- Transfers as loops of single calls, for both directions: what a loop keeps, and how each way out of
-- it ends the transfer.
use Rattle.std.proofs.Common.{◌≡◌, ◌≤◌, ◌<◌, ◌+◌, ◌-◌, ◌^◌, ◌⊎◌, inl, inr, ℕ, List, [], ◌∷◌, ◌++◌, length, min, Option, None, Result, Ok, Err, arith, refl, ap, ◌∙◌, append-nil}
use Rattle.std.proofs.lemmas.Grind.{flat_map-append}
use Rattle.std.proofs.lemmas.List.Sums.{sum_by_push, sum_by-cons}
use Rattle.vfs_files.specs.Transfers.{Ending, Finished, Stuck, Broken, Past, last_bytes, outcome, bytes_moved, count_moved, CallsFile, MovesSome, Goes, EndsBy, Transfers}

-- what bytes are put into or taken from: what it is for bytes to be moved, how many may still be, and
-- the laws of both
pub record Side (S : Type 0) : Type 1 where
  pub moves : S → List ℕ → S → Type 0
  pub left : S → ℕ
  pub nothing : (s : S) → moves s [] s
  pub one_then_other : (u v w : S) (a b : List ℕ) → moves u a v → moves v b w → moves u (a ++ b) w
  pub takes_left : (u v : S) (a : List ℕ) → moves u a v → left v + length a ≡ left u

bytes-snoc :
    {F : Type 0} (row : List (List ℕ × F)) (part : List ℕ) (new : F)
    → bytes_moved (row ++ (part, new) ∷ []) ≡ bytes_moved row ++ part
bytes-snoc {F} row part new =
    flat_map-append (λ (c : List ℕ × F). c.0) row ((part, new) ∷ [])
    ∙ ap (λ l. bytes_moved row ++ l) (append-nil part)

count-snoc :
    {F : Type 0} (row : List (List ℕ × F)) (part : List ℕ) (new : F)
    → count_moved (row ++ (part, new) ∷ []) ≡ count_moved row + length part
count-snoc {F} row part new = sum_by_push (λ (c : List ℕ × F). length c.0) row (part, new)

no_bytes : (xs : List ℕ) → 0 ≡ length xs → xs ≡ []
no_bytes [] e = refl
no_bytes (x ∷ xs) e = absurd (omega arith)

module _ {F S : Type 0} (side : Side S)
    (calls : ℕ → F → ℕ → ℕ → Result (List ℕ) (Option ℕ) → F → Type 0) where
  -- what one call did at this position with a view of `len` bytes: where there was nothing to be
  -- moved it was not made, else it moved a beginning, or failed
  abbrev pub Did : (moved place len : ℕ) → F → S → Result ℕ (Option ℕ) → F → S → Type 0
  Did moved place len f now (Ok n) g new =
      ((len ≡ 0) × (n ≡ 0) × (g ≡ f) × (new ≡ now))
      ⊎ ((0 < len) × ((part : List ℕ)
      × calls moved f place len (Ok part) g
      × (n ≡ length part) × (n ≤ len) × side.moves now part new))
  Did moved place len f now (Err fault) g new =
      (0 < len) × calls moved f place len (Err fault) g × side.moves now [] new

  module _ (count off : ℕ) (first : F) (old : S) where
    abbrev Made : ℕ → F → Result (List ℕ) (Option ℕ) → F → Type 0
    Made moved f answer g = CallsFile calls count (side.left old) off moved f answer g

    abbrev MovesPart : ℕ → F → List ℕ → F → Type 0
    MovesPart moved f part g = MovesSome calls count (side.left old) off moved f part g

    -- one more call at the end of a row
    goes-snoc :
        (moved : ℕ) (f : F) (row : List (List ℕ × F)) (g h : F) (part : List ℕ) (m : ℕ)
        → m ≡ moved + count_moved row
        → Goes calls count (side.left old) off moved f row g
        → MovesPart m g part h → off + m + length part < 2 ^ 64
        → Goes calls count (side.left old) off moved f (row ++ (part, h) ∷ []) h
    goes-snoc moved f [] g h part m at goes more below =
        let same : m ≡ moved = omega arith in
        (rw (goes, same) at more, rw same at below, refl)
    goes-snoc moved f (c ∷ cs) g h part m at goes more below =
        let sum : count_moved (c ∷ cs) ≡ length c.0 + count_moved cs =
        sum_by-cons (λ (x : List ℕ × F). length x.0) c cs in (
          goes.0,
          goes.1,
          goes-snoc (moved + length c.0) c.1 cs g h part m (omega arith) goes.2 more below,
        )

    -- what a loop of calls keeps: the calls that were made, what they moved and where they are
    pub record Going (moved place : ℕ) (f : F) (now : S) : Type 0 where
      pub row : List (List ℕ × F)
      pub goes : Goes calls count (side.left old) off 0 first row f
      pub moved_is : moved ≡ count_moved row
      pub place_is : place ≡ off + moved
      pub moves : side.moves old (bytes_moved row) now
      pub left_is : side.left now + moved ≡ side.left old
      pub within : moved ≤ count

    -- bytes were moved, by a transfer
    abbrev pub Ended : Result ℕ (Option ℕ) → F → S → Type 0
    Ended result g new =
        (bytes : List ℕ) × side.moves old bytes new
        × Transfers calls count (side.left old) off first bytes result g

    pub going_start : Going 0 off first old
    going_start = record {
      row = [];
      goes = refl;
      moved_is = refl;
      place_is = omega arith;
      moves = side.nothing old;
      left_is = omega arith;
      within = omega arith;
    }

    -- the loop's next call, which has a view of as many bytes as are to be moved and are left
    abbrev pub DoesNext :
        (moved place : ℕ) → F → S → Result ℕ (Option ℕ) → F → S → Type 0
    DoesNext moved place f now result g new =
        Did moved place (min (count - moved) (side.left now)) f now result g new

    -- it is the next of the transfer
    made :
        {moved place : ℕ} {f g : F} {now : S} {answer : Result (List ℕ) (Option ℕ)}
        → Going moved place f now → 0 < min (count - moved) (side.left now)
        → calls moved f place (min (count - moved) (side.left now)) answer g
        → Made moved f answer g
    made {moved} {place} {f} {g} {now} {answer} going some call =
        let place_is = going.place_is in
        let left_is = going.left_is in
        let view : min (count - moved) (side.left now) ≡ min count (side.left old) - moved =
        omega arith in
        (omega arith, rw (place_is, view) at call)

    -- the calls are over, and this is the ending
    ended :
        {moved place : ℕ} {f g : F} {now new : S} → Going moved place f now → (ending : Ending)
        → EndsBy calls count (side.left old) off moved f ending g
        → side.moves now (last_bytes ending) new → Ended (outcome moved ending) g new
    ended {moved} {place} {f} {g} {now} {new} going ending ends moves = (
      bytes_moved going.row ++ last_bytes ending,
      side.one_then_other old now new _ _ going.moves moves,
      record {
        row = going.row;
        middle = f;
        ending = ending;
        goes = going.goes;
        ends = rw going.moved_is at ends;
        bytes_are = refl;
        answered = ap (λ n. outcome n ending) going.moved_is;
      },
    )

    -- all is moved
    pub going_done :
        {moved place : ℕ} {f : F} {now : S} → Going moved place f now → count ≤ moved
        → Ended (Ok moved) f now
    going_done {moved} {place} {f} {now} going all =
        ended going Finished (omega arith, refl) (side.nothing now)

    -- a call that moved bytes, as one of the transfer, and where it left off
    record Moved (moved place n : ℕ) (f : F) (now : S) (g : F) (new : S) : Type 0 where
      part : List ℕ
      is : MovesPart moved f part g
      n_is : n ≡ length part
      moves : side.moves now part new
      within : moved + n ≤ count
      left_is : side.left new + (moved + n) ≡ side.left old

    moved_by :
        {moved place n : ℕ} {f g : F} {now new : S}
        → Going moved place f now → 0 < n → DoesNext moved place f now (Ok n) g new → Moved moved place n f now g new
    moved_by {moved} {place} {n} {f} {g} {now} {new} going some (inl none) =
        let zero_is = none.1 in
        absurd (omega arith)
    moved_by {moved} {place} {n} {f} {g} {now} {new} going some (inr did) =
        let part = did.1.0 in
        let n_is : n ≡ length part = did.1.2 in
        let below : n ≤ min (count - moved) (side.left now) = did.1.3 in
        let left_is = going.left_is in
        let within = going.within in
        let taken = side.takes_left now new part did.1.4 in
        record {
          part = part;
          is = record {
            call = made going did.0 did.1.1;
            some = omega (arith, n_is, some);
            within = omega (arith, n_is, below, left_is);
          };
          n_is = n_is;
          moves = did.1.4;
          within = omega (arith, within, below);
          left_is = omega (arith, taken, n_is, left_is);
        }

    -- a call moved bytes, and there is a position after them
    pub going_more :
        {moved place n : ℕ} {f g : F} {now new : S}
        → Going moved place f now → 0 < n → DoesNext moved place f now (Ok n) g new → place + n < 2 ^ 64
        → Going (moved + n) (place + n) g new
    going_more {moved} {place} {n} {f} {g} {now} {new} going some did below =
        let m = moved_by going some did in
        let moved_is = going.moved_is in
        let place_is = going.place_is in
        let n_is = m.n_is in
        record {
          row = going.row ++ (m.part, g) ∷ [];
          goes = goes-snoc 0 first going.row f g m.part moved (omega arith) going.goes m.is
              (omega (arith, below, place_is, n_is));
          moved_is = omega (arith, count-snoc going.row m.part g, moved_is, n_is);
          place_is = omega (arith, place_is);
          moves = rw (bytes-snoc going.row m.part g)
              (side.one_then_other old now new _ _ going.moves m.moves);
          left_is = m.left_is;
          within = m.within;
        }

    -- a call moved bytes, and the position after them is past the last
    pub going_past :
        {moved place n : ℕ} {f g : F} {now new : S}
        → Going moved place f now → 0 < n → DoesNext moved place f now (Ok n) g new → 2 ^ 64 ≤ place + n
        → Ended (Err None) g new
    going_past {moved} {place} {n} {f} {g} {now} {new} going some did past =
        let m = moved_by going some did in
        let place_is = going.place_is in
        let n_is = m.n_is in
        ended going (Past m.part) (m.is, omega (arith, past, place_is, n_is)) m.moves

    -- 0 was answered: there was nothing to be moved, or the file moved none of it
    pub going_none :
        {moved place : ℕ} {f g : F} {now new : S}
        → Going moved place f now → DoesNext moved place f now (Ok 0) g new → Ended (Ok moved) g new
    going_none {moved} {place} {f} {g} {now} {new} going (inl none) =
        let left_is = going.left_is in
        let zero_is = none.0 in
        let empty : min count (side.left old) - moved ≡ 0 = omega arith in
        rw (none.2, none.3) (ended going Finished (empty, refl) (side.nothing now))
    going_none {moved} {place} {f} {g} {now} {new} going (inr did) =
        let nil : did.1.0 ≡ [] = no_bytes did.1.0 did.1.2 in
        ended going Stuck (made going did.0 (rw nil at did.1.1)) (rw nil at did.1.4)

    -- a call failed
    pub going_broken :
        {moved place : ℕ} {f g : F} {now new : S} {fault : Option ℕ}
        → Going moved place f now → DoesNext moved place f now (Err fault) g new → Ended (Err fault) g new
    going_broken {moved} {place} {f} {g} {now} {new} {fault} going did =
        ended going (Broken fault) (made going did.0 did.1) did.2
