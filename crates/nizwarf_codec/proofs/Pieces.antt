-- The bytes of a request that lies in one piece, and the pieces after its header.
use Rattle.std.proofs.Common.{◌≡◌, ◌-◌, ◌≤◌, List, [], ◌∷◌, ℕ, Bool, true, false, nat_lt, length, get_or, refl, ap, arith, append-nil}
use Rattle.std.proofs.lemmas.Bool.Decides.{nat_tests}
use Rattle.std.specs.Borrow.{Bor}
use Rattle.vfs_segments.specs.Lengths.{lengths_from}
use Rattle.vfs_segments.specs.Segments.{segments_of, flat_bytes, lengths_of}

pub one_piece : (xs : List (Bor (List ℕ))) (d : Bor (List ℕ)) → length xs ≡ 1 → flat_bytes (segments_of xs) ≡ (get_or xs 0 d).now
one_piece [] d e = absurd (let a = e in cc)
one_piece (a ∷ []) d e = append-nil a.now
one_piece (a ∷ b ∷ xs) d e = absurd (let f = e in cc)

-- what is after the first 40 bytes of a piece
after_40 : (n m : ℕ) (more : Bool) → 40 ≤ n → m ≡ n - 40 → nat_lt 40 n ≡ more
    → lengths_from 40 (lengths_from 0 (n ∷ [])) ≡ lengths_from 0 (m ∷ [])
after_40 n m true long is b =
    let first : nat_lt 0 n ≡ true = grind (arith, nat_tests, long) in
    let some : nat_lt 0 m ≡ true = grind (arith, nat_tests, is, b) in
    let all : n - 0 ≡ n = omega arith in
    rw (first, all, b, some) (ap (λ (k : ℕ). k ∷ []) (omega (arith, is)))
after_40 n m false long is b =
    let first : nat_lt 0 n ≡ true = grind (arith, nat_tests, long) in
    let none : nat_lt 0 m ≡ false = grind (arith, nat_tests, is, b) in
    let all : n - 0 ≡ n = omega arith in
    rw (first, all, b, none) refl

pub one_following : (xs : List (Bor (List ℕ))) (d : Bor (List ℕ)) (m : ℕ) → length xs ≡ 1 → 40 ≤ length (get_or xs 0 d).now
    → m ≡ length (get_or xs 0 d).now - 40
    → lengths_from 40 (lengths_from 0 (lengths_of (segments_of xs))) ≡ lengths_from 0 (m ∷ [])
one_following [] d m e long is = absurd (let a = e in cc)
one_following (a ∷ []) d m e long is = after_40 (length a.now) m (nat_lt 40 (length a.now)) long is refl
one_following (a ∷ b ∷ xs) d m e long is = absurd (let f = e in cc)
