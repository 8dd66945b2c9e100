-- Where the first 0 of a list is.
use Rattle.std.proofs.Common.{◌≡◌, ◌==◌, ◌+◌, ◌-◌, ◌<◌, ℕ, List, length, take, position, Option, Some, None, ap, sym, ◌∙◌, arith}
use Rattle.std.proofs.lemmas.Bool.Decides.{nat_tests}
use Rattle.std.proofs.lemmas.List.Quantifiers.{position-Some}
use Rattle.vfs_files.specs.Values.{name_of}
use Rattle.vfs_files.specs.Places.{name_to}

-- a place that was found lies in the list
pub below_length : (bytes : List ℕ) (i : ℕ) → position (λ b. b == 0) bytes ≡ Some i → i < length bytes
below_length bytes i h = (position-Some (λ b. b == 0) bytes i 0 h).0

-- the first 0 of a name is its last byte
record EndsLast (bytes text : List ℕ) (place : Option ℕ) : Type 0 where
  some : 0 < length bytes
  place_is : place ≡ Some (length bytes - 1)
  text_is : take (length bytes - 1) bytes ≡ text

ends_last : (bytes text : List ℕ) (place : Option ℕ) → name_to bytes place ≡ Some text → EndsLast bytes text place
ends_last bytes text None e = absurd cc
ends_last bytes text (Some i) e =
    let last : i + 1 ≡ length bytes = grind (arith, nat_tests) in
    let before : take i bytes ≡ text = grind (arith, nat_tests) in
    let is : i ≡ length bytes - 1 = omega (arith, last) in
    record {
      some = omega (arith, last);
      place_is = ap (λ (k : ℕ). Some k) is;
      text_is = ap (λ (k : ℕ). take k bytes) (sym is) ∙ before;
    }

pub name_has_an_end : (bytes text : List ℕ) → name_of bytes ≡ Some text → 0 < length bytes
name_has_an_end bytes text e = (ends_last bytes text (position (λ b. b == 0) bytes) e).some

pub name_ends_last : (bytes text : List ℕ) → name_of bytes ≡ Some text → position (λ b. b == 0) bytes ≡ Some (length bytes - 1)
name_ends_last bytes text e = (ends_last bytes text (position (λ b. b == 0) bytes) e).place_is

pub name_is_the_rest : (bytes text : List ℕ) → name_of bytes ≡ Some text → take (length bytes - 1) bytes ≡ text
name_is_the_rest bytes text e = (ends_last bytes text (position (λ b. b == 0) bytes) e).text_is
