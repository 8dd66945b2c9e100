-- The header of a request with another opcode, and what comes after it.
use Rattle.std.proofs.Common.{◌≡◌, ◌≤◌, ◌<◌, ◌^◌, ◌∙◌, ℕ, Bool, true, false, List, ◌∷◌, ◌+◌, ◌-◌, ◌++◌, length, take, drop, min, nat_lt, if◌then◌else◌, Result, Ok, Err, refl, ap, sym, arith, length-append, length-drop}
use Rattle.std.proofs.lemmas.List.{length-take}
use Rattle.std.proofs.lemmas.Bool.Decides.{nat_tests}
use Rattle.vfs_wire.specs.Fields.{value_of, little, number}
use Rattle.vfs_wire.specs.FieldLaws.{length-little, number-little}
use Rattle.vfs_wire.specs.Records.{in_header}
use Rattle.vfs_wire.specs.declared.headers.InHeader.{InHeader}
use Rattle.vfs_grammar.specs.Records.{record_of}
use Rattle.vfs_grammar.specs.declared.error.Error.{Error}
use Rattle.vfs_grammar.specs.declared.error.Error.TheVariants.{DecodeMessage}
use Rattle.codec_decode.specs.WithOpcode.{with_opcode}
use Rattle.codec_decode.proofs.Memory.{read_header_is}

-- the first four bytes make a number, whatever comes after them
first_number : (a b c d : ℕ) (x y : List ℕ) → number 4 (a ∷ b ∷ c ∷ d ∷ x) ≡ number 4 (a ∷ b ∷ c ∷ d ∷ y)
unfolding number
first_number a b c d x y = refl

module _ (n : ℕ) (fits : n < 2 ^ 32) where
  pub same_length : (q : List ℕ) → 8 ≤ length q → length (with_opcode n q) ≡ length q
  unfolding little
  same_length (a ∷ b ∷ c ∷ d ∷ e ∷ f ∷ g ∷ h ∷ rest) long = refl
  same_length _ long = absurd (omega (arith, long))

  pub same_rest : (q : List ℕ) → 8 ≤ length q → drop 40 (with_opcode n q) ≡ drop 40 q
  unfolding little
  same_rest (a ∷ b ∷ c ∷ d ∷ e ∷ f ∷ g ∷ h ∷ rest) long = refl
  same_rest _ long = absurd (omega (arith, long))

  pub its_header : (q : List ℕ) → 8 ≤ length q
      → value_of in_header (with_opcode n q) ≡ (let h : InHeader = value_of in_header q in record h { opcode = n })
  unfolding little
  its_header (a ∷ b ∷ c ∷ d ∷ e ∷ f ∷ g ∷ h ∷ rest) long = rw (number-little 4 n rest fits, first_number a b c d (little 4 n ++ rest) (e ∷ f ∷ g ∷ h ∷ rest)) refl
  its_header _ long = absurd (omega (arith, long))

-- ---- as it is read

read_whole : (short : Bool) (v h : InHeader) → (if short then Err DecodeMessage else Ok v) ≡ Ok h → short ≡ false
read_whole true v h e = absurd (let a = e in cc)
read_whole false v h e = refl

-- a header that was read is whole
pub header_whole : (q : List ℕ) (h : InHeader) → record_of in_header q ≡ Ok h → 40 ≤ length q
header_whole q h e =
    let long = read_whole (nat_lt (length q) 40) (value_of in_header q) h e in
    grind (arith, nat_tests, long)

-- so that of the request with another opcode is it, with that opcode
pub header_as : (n : ℕ) → n < 2 ^ 32 → (q : List ℕ) (h : InHeader) → record_of in_header q ≡ Ok h
    → record_of in_header (with_opcode n q) ≡ Ok (record h { opcode = n })
header_as n fits q h e =
    let whole = header_whole q h e in
    let eight : 8 ≤ length q = omega (arith, whole) in
    let long : nat_lt (length q) 40 ≡ false = grind (arith, nat_tests, whole) in
    let is : h ≡ value_of in_header q = read_header_is q h e in
    rw (same_length n fits q eight, long, its_header n fits q eight, is) refl

read_short : (short : Bool) (v : InHeader) (error : Error) → (if short then Err DecodeMessage else Ok v) ≡ Err error
    → (short ≡ true) × (error ≡ DecodeMessage)
read_short true v error e = (refl, let a = e in cc)
read_short false v error e = absurd (let a = e in cc)

length_as : (n : ℕ) (q : List ℕ) → length (with_opcode n q) ≡ min 4 (length q) + (4 + (length q - 8))
length_as n q =
    omega (
      arith,
      length-append (take 4 q) (little 4 n ++ drop 8 q),
      length-append (little 4 n) (drop 8 q),
      length-little 4 n,
      length-take 4 q,
      length-drop 8 q,
    )

-- and where none is read, none is
pub none_as : (n : ℕ) (q : List ℕ) (error : Error) → record_of in_header q ≡ Err error
    → record_of in_header (with_opcode n q) ≡ Err error
none_as n q error e =
    let s = read_short (nat_lt (length q) 40) (value_of in_header q) error e in
    let less : length q < 40 = grind (arith, nat_tests, s.0) in
    let less_as : length (with_opcode n q) < 40 = omega (arith, length_as n q, less) in
    let short : nat_lt (length (with_opcode n q)) 40 ≡ true = grind (arith, nat_tests, less_as) in
    rw (short, s.1) refl

ok_is : (a b : InHeader) → (let x : Result InHeader Error = Ok a in x) ≡ Ok b → a ≡ b
ok_is a b e = cc

-- what is read of a request with this opcode has it
pub opcode_is : (n : ℕ) → n < 2 ^ 32 → (q : List ℕ) (h : InHeader) → record_of in_header (with_opcode n q) ≡ Ok h
    → h.opcode ≡ n
opcode_is n fits q h e = by (record_of in_header q) refl where
  by : (r : Result InHeader Error) → record_of in_header q ≡ r → h.opcode ≡ n
  by (Ok v) is = ap (λ (h : InHeader). h.opcode) (ok_is h (record v { opcode = n }) (sym e ∙ header_as n fits q v is))
  by (Err error) is = absurd (let i = sym e ∙ none_as n q error is in cc)
