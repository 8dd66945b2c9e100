-- A reader, some bytes on.
use Rattle.std.proofs.Common.{◌≡◌, ℕ, ◌+◌, ◌-◌, ◌<◌, ◌≤◌, ◌&&◌, List, true, false, ⊎_elim, length, take, drop, ap, ◌∙◌, sym, refl, arith, length-take, length-drop}
use Rattle.std.proofs.lemmas.Bool.{cases_lt}
use Rattle.std.proofs.lemmas.Bool.Decides.{nat_tests}
use Rattle.std.proofs.lemmas.List.{drop-take, drop-drop, take-take}
use Rattle.std.specs.Prelude.{nat_le}
use Rattle.vfs_segments.specs.Lengths.{lengths_before, lengths_from, lie_together}
use Rattle.vfs_segments.specs.Reader.{IsReader, unread_of}
use Rattle.std.specs.List.{concat}
use Rattle.vfs_segments.specs.Segments.{lengths_of}
use Rattle.vfs_segments.specs.Unread.{Unread, advanced, are_together, first_of, rest_of}
use Rattle.vfs_segments.specs.declared.reader.Reader.TheInside.{Inside}
use Rattle.vfs_segments.proofs.Together.{before-before, from-before, from-from, together-before, together-from}

-- what is left of a part, n bytes on
left_moved : (bytes : List ℕ) (at end n : ℕ) → at + n ≤ end →
    take (end - (at + n)) (drop (at + n) bytes) ≡ drop n (take (end - at) (drop at bytes))
left_moved bytes at end n h =
    let m : end - at ≡ n + (end - (at + n)) = omega arith in
    sym
    (ap (λ k. drop n (take k (drop at bytes))) m ∙ drop-take n (end - (at + n)) (drop at bytes)
    ∙ ap (take (end - (at + n))) (drop-drop n at bytes))

-- its pieces
pieces_moved : (lengths : List ℕ) (at end n : ℕ) → at + n ≤ end →
    lengths_before (end - (at + n)) (lengths_from (at + n) lengths)
    ≡ lengths_from n (lengths_before (end - at) (lengths_from at lengths))
pieces_moved lengths at end n h =
    let m : end - at - n ≡ end - (at + n) = omega arith in
    sym
    (from-before n (end - at) (lengths_from at lengths) (omega arith)
    ∙ ap (lengths_before (end - at - n)) (from-from at n lengths)
    ∙ ap (λ k. lengths_before k (lengths_from (at + n) lengths)) m)

-- two readers are equal where their parts are
unread-eq : {a a' p p' : List ℕ} {t t' : ℕ} → a ≡ a' → t ≡ t' → p ≡ p' →
    ◌≡◌ {A = Unread} (record { left = a; taken = t; pieces = p }) (record { left = a'; taken = t'; pieces = p' })
unread-eq e f g = rw (e, f, g)

module _ (r : Inside) (ok : IsReader r) (u : Unread) (seen : unread_of r ≡ u) where
  abbrev lengths : List ℕ
  lengths = lengths_of r.segments

  -- how many bytes are left
  pub length-left : length u.left ≡ r.end - r.at
  length-left =
      ap (λ (v : Unread). length v.left) (sym seen)
      ∙ omega (arith, ok.before_end, ok.within, length-take (r.end - r.at) (drop r.at (concat r.segments)), length-drop r.at (concat r.segments))

  -- n bytes on
  pub moved_on : (n : ℕ) → r.at + n ≤ r.end → unread_of (record r { at = r.at + n }) ≡ advanced u n
  moved_on n h =
      let t : r.at + n - r.start ≡ r.at - r.start + n = omega (arith, ok.after_start) in
      unread-eq (left_moved (concat r.segments) r.at r.end n h) t (pieces_moved lengths r.at r.end n h)
      ∙ ap (λ v. advanced v n) seen

  -- cut n bytes on: what stays
  pub kept_of : (n : ℕ) → r.at + n ≤ r.end → unread_of (record r { end = r.at + n }) ≡ first_of u n
  kept_of n h =
      let m : r.at + n - r.at ≡ n = omega arith in
      let bytes = drop r.at (concat r.segments) in
      let pieces = lengths_from r.at lengths in
      unread-eq
      (ap (λ k. take k bytes) m ∙ sym (take-take n (r.end - r.at) bytes (omega arith))) refl
      (ap (λ k. lengths_before k pieces) m ∙ sym (before-before n (r.end - r.at) pieces (omega arith)))
      ∙ ap (λ v. first_of v n) seen

  -- and the rest
  pub cut_of : (n : ℕ) → r.at + n ≤ r.end →
      unread_of (record r { start = r.at + n; at = r.at + n }) ≡ rest_of u n
  cut_of n h =
      let t : r.at + n - (r.at + n) ≡ 0 = omega arith in
      unread-eq (left_moved (concat r.segments) r.at r.end n h) t (pieces_moved lengths r.at r.end n h)
      ∙ ap (λ v. rest_of v n) seen

  -- which of the bytes left lie together
  pub together_is : (at n : ℕ) → r.at + at + n ≤ r.end → are_together u at n ≡ lie_together (r.at + at) n lengths
  together_is at n h =
      let size = length-left in
      let all : nat_le (at + n) (length u.left) ≡ true = grind (arith, nat_tests) in
      rw all
      (ap (λ (v : Unread). lie_together at n v.pieces) (sym seen)
      ∙ together-before at n (r.end - r.at) (lengths_from r.at lengths) (omega arith)
      ∙ together-from at n r.at lengths)

  -- the same of any place
  pub together_in : (at n : ℕ) →
      (nat_le (r.at + at + n) r.end && lie_together (r.at + at) n lengths) ≡ are_together u at n
  together_in at n =
      let size = length-left in
      let order = ok.before_end in
      ⊎_elim
      (λ (over : r.end < r.at + at + n).
      let none : nat_le (r.at + at + n) r.end ≡ false = grind (arith, nat_tests) in
      let few : nat_le (at + n) (length u.left) ≡ false = grind (arith, nat_tests) in
      rw (none, few))
      (λ (fits : r.at + at + n ≤ r.end).
      let all : nat_le (r.at + at + n) r.end ≡ true = grind (arith, nat_tests) in
      rw all (sym (together_is at n fits)))
      (cases_lt r.end (r.at + at + n))
