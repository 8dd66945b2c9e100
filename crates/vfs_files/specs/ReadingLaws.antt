-- A transfer of bytes, which moves all that it can at its first call.
use Rattle.std.proofs.Common.{◌≡◌, ◌≤◌, ◌+◌, ℕ, List, [], ◌∷◌, ◌++◌, length, take, drop, min, Option, Result, Ok, refl, sym, ap, ◌∙◌, arith, append-nil, length-take, length-drop, add-zero}
use Rattle.std.proofs.Math.Seq.{take-add}
use Rattle.std.proofs.lemmas.List.{take_min, take_all, drop-drop}
use Rattle.std.proofs.lemmas.List.Sums.{sum_by-cons}
use Rattle.vfs_files.specs.Transfers.{Ending, Finished, Stuck, Broken, Past, last_bytes, outcome, bytes_moved, count_moved, reads_of, view_len, Goes, EndsBy, Transfers}
use Rattle.vfs_files.specs.TransferLaws.{goes_within}
use Rattle.vfs_files.specs.Bytes.{part_of, Reads}

-- the beginning of a list is that of its own length
own_length : (n : ℕ) (xs ys : List ℕ) → xs ≡ take n ys → xs ≡ take (length xs) ys
own_length n xs ys e =
    e ∙ sym (take_min n ys) ∙ ap (λ k. take k ys) (sym (ap length e ∙ length-take n ys))

module _ (count room off : ℕ) where
  -- reads in a row move what is there, one part after the other
  read_goes :
      (moved : ℕ) (old : List ℕ) (row : List (List ℕ × List ℕ)) (new : List ℕ)
      → Goes (reads_of Reads) count room off moved old row new
      → (new ≡ old) × (bytes_moved row ≡ take (count_moved row) (drop (off + moved) old))
  read_goes moved old [] new g = (g, refl)
  read_goes moved old (c ∷ cs) new g =
      let r = g.0.call.1 in
      let rest = read_goes (moved + length c.0) c.1 cs new g.2 in
      let here = drop (off + moved) old in
      let own = own_length (view_len (reads_of Reads) count room off moved) c.0 here r.there in
      let sum : count_moved (c ∷ cs) ≡ length c.0 + count_moved cs =
      sum_by-cons (λ (x : List ℕ × List ℕ). length x.0) c cs in
      let following : off + (moved + length c.0) ≡ off + moved + length c.0 = omega arith in
      let next : drop (off + (moved + length c.0)) c.1 ≡ drop (length c.0) here =
      ap (λ s. drop (off + (moved + length c.0)) s) r.same ∙ ap (λ k. drop k old) following
      ∙ sym (drop-drop (length c.0) (off + moved) old) in (
        rest.0 ∙ r.same,
        ap (λ s. c.0 ++ s) (rest.1 ∙ ap (take (count_moved cs)) next)
            ∙ ap (λ s. s ++ take (count_moved cs) (drop (length c.0) here)) own
            ∙ sym (take-add (length c.0) (count_moved cs) here) ∙ ap (λ k. take k here) (sym sum),
      )

  -- how they end: all that is there, and asked for, was moved
  record ReadEnds (moved : ℕ) (old : List ℕ) (ending : Ending) (new : List ℕ) : Type 0 where
    answered : outcome moved ending ≡ Ok moved
    nothing : last_bytes ending ≡ []
    same : new ≡ old
    all : take moved (drop off old) ≡ part_of old off (min count room)

  read_ends :
      (moved : ℕ) (old : List ℕ) (ending : Ending) (new : List ℕ) → moved ≤ min count room
      → EndsBy (reads_of Reads) count room off moved old ending new
      → ReadEnds moved old ending new
  read_ends moved old Finished new small h =
      let whole : moved ≡ min count room = omega (arith, h.0) in
      record {
        answered = refl;
        nothing = refl;
        same = h.1;
        all =
            ap (λ k. take k (drop off old)) whole;
      }
  read_ends moved old Stuck new small h =
      let r = h.1 in
      let none =
      ap length r.there
      ∙ length-take (view_len (reads_of Reads) count room off moved) (drop (off + moved) old) in
      let past : length old ≤ off + moved = omega (
        arith,
        h.0,
        none,
        length-drop (off + moved) old,
      ) in
      let long : length (drop off old) ≤ moved = omega (arith, length-drop off old) in
      record {
        answered = refl;
        nothing = refl;
        same = r.same;
        all =
            take_all moved (drop off old) long
            ∙ sym (take_all (min count room) (drop off old) (omega arith));
      }
  read_ends moved old (Broken fault) new small h = let e = h.1.answered in cc
  read_ends moved old (Past part) new small h =
      let r = h.0.call.1 in
      let some = h.0.some in
      let far = h.1 in
      let long =
      ap length r.there
      ∙ length-take (view_len (reads_of Reads) count room off moved) (drop (off + moved) old) in
      absurd (omega (arith, r.small, long, length-drop (off + moved) old))

  -- a transfer that reads moves what is there
  pub record ReadTransfer (old bytes : List ℕ) (result : Result ℕ (Option ℕ))
      (new : List ℕ) : Type 0 where
    pub answered : result ≡ Ok (length bytes)
    pub there : bytes ≡ part_of old off (min count room)
    pub same : new ≡ old

  pub read_transfer :
      (old bytes : List ℕ) (result : Result ℕ (Option ℕ)) (new : List ℕ)
      → Transfers (reads_of Reads) count room off old bytes result new
      → ReadTransfer old bytes result new
  read_transfer old bytes result new t =
      let size =
      goes_within (reads_of Reads) count room off 0 old t.row t.middle (omega arith) t.goes in
      let row = read_goes 0 old t.row t.middle t.goes in
      let end = read_ends (count_moved t.row) t.middle t.ending new (omega (
        arith,
        size.1,
      )) t.ends in
      let whole : bytes ≡ bytes_moved t.row =
      t.bytes_are ∙ ap (λ l. bytes_moved t.row ++ l) end.nothing ∙ append-nil (bytes_moved t.row) in
      let start : bytes_moved t.row ≡ take (count_moved t.row) (drop off old) =
      row.1 ∙ ap (λ k. take (count_moved t.row) (drop k old)) (add-zero off) in
      let told : count_moved t.row ≡ length bytes = sym size.0 ∙ ap length (sym whole) in
      record {
        answered = t.answered ∙ end.answered ∙ ap (λ n. Ok n) told;
        there = whole ∙ start ∙ ap (λ s. take (count_moved t.row) (drop off s)) (sym row.0)
            ∙ end.all ∙ ap (λ s. part_of s off (min count room)) row.0;
        same = end.same ∙ row.0;
      }
