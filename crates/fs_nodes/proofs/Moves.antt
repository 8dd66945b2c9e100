-- A transfer out of pages, which moves all that is asked for.
use Rattle.std.proofs.Common.{◌≡◌, ◌≤◌, ◌<◌, ◌+◌, ◌-◌, ◌^◌, ℕ, List, [], ◌∷◌, ◌++◌, length, get_or, min, Option, Result, Ok, refl, sym, ap, ◌∙◌, ⊎_elim, arith, append-nil, length-append}
use Rattle.std.proofs.lemmas.Bool.{cases_lt}
use Rattle.std.proofs.lemmas.List.{get_or_append_left, get_or-append_right}
use Rattle.vfs_files.specs.Transfers.{Ending, Finished, Stuck, Broken, Past, last_bytes, outcome, bytes_moved, count_moved, reads_of, Goes, EndsBy, Transfers}
use Rattle.vfs_files.specs.TransferLaws.{goes_within}
use Rattle.fs_nodes.specs.Pages.{Pages, byte_at}
use Rattle.fs_nodes.specs.Reading.{ReadsSome}

module _ (count room off : ℕ) (low : off + count < 2 ^ 64) where
  -- reads in a row move what is there, one part after the other
  read_goes : (moved : ℕ) (old : Pages) (row : List (List ℕ × Pages)) (new : Pages)
      → Goes (reads_of ReadsSome) count room off moved old row new
      → (new ≡ old)
      × ((i : ℕ) → i < length (bytes_moved row)
      → get_or (bytes_moved row) i 0 ≡ byte_at old (off + moved + i))
  read_goes moved old [] new g = (g, λ i within. absurd (omega (arith, within)))
  read_goes moved old (c ∷ cs) new g =
      let r = g.0.call.1 in
      let rest = read_goes (moved + length c.0) c.1 cs new g.2 in (
        rest.0 ∙ r.same,
        λ i within.
            ⊎_elim
            (λ (front : i < length c.0).
            get_or_append_left c.0 (bytes_moved cs) 0 i front ∙ r.bytes i front)
            (λ (following : length c.0 ≤ i).
            let j : ℕ = i - length c.0 in
            let inside : j < length (bytes_moved cs) =
            omega (arith, within, length-append c.0 (bytes_moved cs)) in
            let place : off + (moved + length c.0) + j ≡ off + moved + i = omega arith in
            get_or-append_right c.0 (bytes_moved cs) (length c.0) i 0 refl following
            ∙ rest.1 j inside ∙ ap (byte_at c.1) place
            ∙ ap (λ (p : Pages). byte_at p (off + moved + i)) r.same)
            (cases_lt i (length c.0)),
      )

  -- and end when all is moved
  read_ends : (moved : ℕ) (old : Pages) (ending : Ending) (new : Pages) → moved ≤ min count room
      → EndsBy (reads_of ReadsSome) count room off moved old ending new
      → (outcome moved ending ≡ Ok (min count room)) × (last_bytes ending ≡ [])
      × (moved ≡ min count room) × (new ≡ old)
  read_ends moved old Finished new small h =
      let whole : moved ≡ min count room = omega (arith, h.0) in
      (ap (λ n. Ok n) whole, refl, whole, h.1)
  read_ends moved old Stuck new small h =
      let some = h.1.some h.0 in absurd (omega (arith, some))
  read_ends moved old (Broken fault) new small h = let e = h.1.answered in cc
  read_ends moved old (Past part) new small h =
      let within = h.0.within in
      let far = h.1 in
      absurd (omega (arith, low))

  pub record Moved (old : Pages) (bytes : List ℕ) (result : Result ℕ (Option ℕ)) (new : Pages)
      : Type 0 where
    pub answered : result ≡ Ok (length bytes)
    pub size : length bytes ≡ min count room
    pub bytes_are : (i : ℕ) → i < length bytes → get_or bytes i 0 ≡ byte_at old (off + i)
    pub same : new ≡ old

  pub moves_all : (old : Pages) (bytes : List ℕ) (result : Result ℕ (Option ℕ)) (new : Pages)
      → Transfers (reads_of ReadsSome) count room off old bytes result new
      → Moved old bytes result new
  moves_all old bytes result new t =
      let size =
      goes_within (reads_of ReadsSome) count room off 0 old t.row t.middle (omega arith) t.goes in
      let row = read_goes 0 old t.row t.middle t.goes in
      let end = read_ends (count_moved t.row) t.middle t.ending new (omega (
        arith,
        size.1,
      )) t.ends in
      let whole : bytes ≡ bytes_moved t.row =
      t.bytes_are ∙ ap (λ l. bytes_moved t.row ++ l) end.1 ∙ append-nil (bytes_moved t.row) in
      let long : length bytes ≡ min count room = ap length whole ∙ size.0 ∙ end.2 in
      record {
        answered = t.answered ∙ end.0 ∙ ap (λ n. Ok n) (sym long);
        size = long;
        bytes_are = λ i within.
            let inside : i < length (bytes_moved t.row) = omega (arith, within, ap length whole) in
            let place : off + 0 + i ≡ off + i = omega arith in
            ap (λ (l : List ℕ). get_or l i 0) whole ∙ row.1 i inside ∙ ap (byte_at old) place;
        same = end.3 ∙ row.0;
      }
