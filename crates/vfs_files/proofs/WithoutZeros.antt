-- Bytes of which none is 0.
use Rattle.std.proofs.Common.{◌≡◌, ◌≢◌, ℕ, ◌+◌, ◌-◌, ◌≤◌, ◌<◌, ◌==◌, ◌∙◌, List, [], ◌∷◌, Bool, true, false, ◌&&◌, Option, Some, None, nat_lt, length, position, slice_index, take, ap, arith, refl}
use Rattle.std.specs.Prelude.{◌↔◌}
use Rattle.std.proofs.lemmas.Bool.Decides.{nat_tests}
use Rattle.std.proofs.lemmas.Grind.{common_steps}
use Rattle.std.proofs.lemmas.List.{get_or-take, length-take, length_push, get_or_append_left, get_or_at}
use Rattle.std.proofs.lemmas.List.Sums.{position_or_len_is}
use Rattle.vfs_files.specs.Values.{name_of}
use Rattle.vfs_files.specs.Places.{name_to}
use Rattle.vfs_files.proofs.Texts.{found_is_name}
use Rattle.vfs_files.specs.Nonzero.{AreNonzero}

-- a part of bytes of which none is 0
pub part_nonzero : (at n from m : ℕ) (bytes : List ℕ) → at ≤ from → from + m ≤ at + n
    → AreNonzero at n bytes → AreNonzero from m bytes
part_nonzero at n from m bytes low high h = λ k lt z.
    let e : at + (from + k - at) ≡ from + k = omega arith in
    h (from + k - at) (omega arith) (rw e z)

-- one of the bytes of two parts that leave none out
nonzero_at : (t : Bool) (at m from n k : ℕ) (bytes : List ℕ) → nat_lt k m ≡ t → at ≤ from → from ≤ at + m → at + k < from + n
    → AreNonzero at m bytes → AreNonzero from n bytes → slice_index bytes (at + k) ≢ 0
nonzero_at true at m from n k bytes e low meet high a b = a k (grind (arith, nat_tests))
nonzero_at false at m from n k bytes e low meet high a b = λ z.
    let beyond : m ≤ k = grind (arith, nat_tests) in
    let same : from + (at + k - from) ≡ at + k = omega arith in
    b (at + k - from) (omega arith) (rw same z)

-- two parts that leave no byte out
pub parts_nonzero : (at m from n whole : ℕ) (bytes : List ℕ) → at ≤ from → from ≤ at + m → at + whole ≤ from + n
    → AreNonzero at m bytes → AreNonzero from n bytes → AreNonzero at whole bytes
parts_nonzero at m from n whole bytes low meet high a b = λ k lt.
    nonzero_at (nat_lt k m) at m from n k bytes refl low meet (omega arith) a b

both : (a b : Bool) → (a && b) ≡ true → (a ≡ true) × (b ≡ true)
both true b h = (refl, h)
both false b h = cc

and_true : (a b : Bool) → a ≡ true → b ≡ true → (a && b) ≡ true
and_true true b h i = i
and_true false b h i = cc

-- the test of two parts, each in the whole, that leave no byte of it out
pub tests_nonzero : (at m from n whole : ℕ) (bytes : List ℕ) (a b : Bool)
    → at ≤ from → from ≤ at + m → m ≤ whole → at + whole ≡ from + n
    → a ≡ true ↔ AreNonzero at m bytes → b ≡ true ↔ AreNonzero from n bytes
    → (a && b) ≡ true ↔ AreNonzero at whole bytes
tests_nonzero at m from n whole bytes a b low meet within end p q = (
  λ h. let x = both a b h in
      parts_nonzero at m from n whole bytes low meet (omega arith) (p.0 x.0) (q.0 x.1),
  λ h. and_true a b (p.1 (part_nonzero at whole at m bytes (omega arith) (omega arith) h))
      (q.1 (part_nonzero at whole from n bytes low (omega arith) h)),
)

-- the bytes in front of a place
pub front_nonzero : (end : ℕ) (bytes : List ℕ) → end ≤ length bytes
    → AreNonzero 0 (length (take end bytes)) (take end bytes) → AreNonzero 0 end bytes
front_nonzero end bytes within h = λ k lt z.
    h k (omega (arith, lt, length-take end bytes)) (rw (get_or-take end bytes (0 + k) 0 (omega (arith, lt))) z)

pub nonzero_front : (end : ℕ) (bytes : List ℕ) → end ≤ length bytes
    → AreNonzero 0 end bytes → AreNonzero 0 (length (take end bytes)) (take end bytes)
nonzero_front end bytes within h = λ k lt z.
    let low : k < end = omega (arith, lt, length-take end bytes) in
    let same = get_or-take end bytes (0 + k) 0 (omega (arith, low)) in
    h k low (rw same at z)

-- the first 0 is the last byte
pub place_of_nul : (end : ℕ) (bytes : List ℕ) → end < length bytes → slice_index bytes end ≡ 0 → AreNonzero 0 end bytes
    → position (λ b. b == 0) bytes ≡ Some end
place_of_nul end bytes within zero h =
    let at = position_or_len_is (λ b. b == 0) bytes end 0 (omega arith)
    (λ k lt. let ne = h k lt in grind (arith, nat_tests)) (λ _. grind (arith, nat_tests)) in
    grind (arith, common_steps)

-- bytes that are no name: one before the last is 0, or the last is not
pub no_name : (end : ℕ) (bytes : List ℕ) (found : Option (List ℕ)) → name_of bytes ≡ found → end + 1 ≡ length bytes
    → (slice_index bytes end ≡ 0 → AreNonzero 0 end bytes → ⊥) → found ≡ None
no_name end bytes None e long h = refl
no_name end bytes (Some text) e long h =
    let n = found_is_name bytes text e in
    let same : length text ≡ end = omega (arith, long, ap length n.0, length_push text 0) in
    absurd (h
    (rw n.0 (get_or_at text 0 [] 0 end same))
    (λ k lt z. let low : k < length text = omega (arith, lt, same) in
    let place : 0 + k ≡ k = omega arith in
    n.1 k low (rw (n.0, place, get_or_append_left text (0 ∷ []) 0 k low) at z)))

-- bytes that are a name
pub is_name : (end : ℕ) (bytes text : List ℕ) → position (λ b. b == 0) bytes ≡ Some end → end + 1 ≡ length bytes → text ≡ take end bytes
    → name_of bytes ≡ Some text
is_name end bytes text at long e =
    let here : name_to bytes (Some end) ≡ Some text = rw e (grind (arith, nat_tests)) in
    ap (name_to bytes) at ∙ here
