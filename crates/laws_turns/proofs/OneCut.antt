-- Bytes are cut into blocks in one way: as they are cut, and in no other way.
use Rattle.std.proofs.Common.{◌≡◌, ◌+◌, ◌-◌, ◌≤◌, ℕ, zero, suc, List, [], ◌∷◌, ◌++◌, length, take, drop, Bool, true, false, if◌then◌else◌, None, Result, Ok, Err, refl, ap, sym, ◌∙◌, subst, arith, length-drop}
use Rattle.std.specs.Prelude.{nat_lt}
use Rattle.std.proofs.lemmas.List.{take-append-drop, drop-drop, length-take}
use Rattle.vfs_wire.specs.Fields.{value_of}
use Rattle.vfs_wire.specs.FieldLaws.{value_of-take}
use Rattle.vfs_wire.specs.Records.{ext_header}
use Rattle.vfs_wire.specs.declared.extensions.ExtHeader.{ExtHeader}
use Rattle.vfs_grammar.specs.Extensions.{Block, Cut, block_in, cut_on, cut_of_most, cut_of, error_or}
use Rattle.vfs_grammar.specs.Words.{block_size}
use Rattle.laws_turns.specs.Extensions.{IsBlock, IsCut, error_of, error_left}
use Rattle.vfs_grammar.specs.declared.error.Error.{Error}
use Rattle.vfs_grammar.specs.declared.error.Error.TheVariants.{DecodeMessage, InvalidHeaderLength}
use Rattle.vfs_grammar.proofs.Blocks.{HasBlock, block_in-has}
use Rattle.laws_turns.proofs.BlockLaws.{block_in-is, after_block}

-- what two tests let pass is what is made of the part
passed-made : (b c : Bool) (f g : Error) (y x : Block) → (if b then Err f else if c then Err g else Ok y) ≡ Ok x → y ≡ x
passed-made true c f g y x is = absurd cc
passed-made false true f g y x is = absurd cc
passed-made false false f g y x is = cc

-- the same of a part
error_or-made : {R : Type 0} (a : Bool) (b c : R → Bool) (r : R) (e f g : Error) (make : R → Block) (x : Block)
    → error_or (if a then Err e else Ok r) (λ k. if b k then Err f else if c k then Err g else Ok (make k)) ≡ Ok x
    → make r ≡ x
error_or-made true b c r e f g make x is = absurd cc
error_or-made false b c r e f g make x is = passed-made (b r) (c r) f g (make r) x is

-- the block that is found
made_block : (bytes : List ℕ) → Block
made_block bytes = record {
  ext_type = (value_of ext_header bytes).ext_type;
  body = take (block_size bytes - 8) (drop 8 bytes);
}

-- where one is found
block_in-made : (bytes : List ℕ) (b : Block) → block_in bytes ≡ Ok b → made_block bytes ≡ b
unfolding made_block
block_in-made bytes b is =
    error_or-made (nat_lt (length bytes) 8) (λ r. nat_lt r.size 8) (λ r. nat_lt (length bytes) r.size)
    (value_of ext_header bytes) DecodeMessage InvalidHeaderLength DecodeMessage
    (λ r. record { ext_type = r.ext_type; body = take (r.size - 8) (drop 8 bytes) }) b is

-- a header by its numbers
abbrev header : (size kind : ℕ) → ExtHeader
header size kind = record { size = size; ext_type = kind }

-- it is one
made_block-is : (bytes : List ℕ) → HasBlock bytes → IsBlock bytes (made_block bytes) (drop (block_size bytes) bytes)
unfolding made_block
made_block-is bytes has =
    let body : List ℕ = take (block_size bytes - 8) (drop 8 bytes) in
    let kind : ℕ = (value_of ext_header bytes).ext_type in
    let size : block_size bytes ≡ 8 + length body =
    omega (arith, has.header, has.whole, length-take (block_size bytes - 8) (drop 8 bytes), length-drop 8 bytes) in
    let following : drop (block_size bytes - 8) (drop 8 bytes) ≡ drop (block_size bytes) bytes =
    drop-drop (block_size bytes - 8) 8 bytes ∙ ap (λ (n : ℕ). drop n bytes) (omega (arith, has.header)) in
    record {
      head = take 8 bytes;
      whole_head = omega (arith, has.header, has.whole, length-take 8 bytes);
      says = value_of-take ext_header 8 bytes (omega arith) ∙ ap (λ (n : ℕ). header n kind) size;
      parts = sym (ap (λ (l : List ℕ). take 8 bytes ++ l)
          (ap (λ (l : List ℕ). body ++ l) (sym following) ∙ take-append-drop (block_size bytes - 8) (drop 8 bytes))
          ∙ take-append-drop 8 bytes);
    }

-- a block that is found is one
block_is-in : (bytes : List ℕ) (b : Block) → block_in bytes ≡ Ok b → IsBlock bytes b (drop (block_size bytes) bytes)
block_is-in bytes b is =
    let P : Block → Type 0 = λ block. IsBlock bytes block (drop (block_size bytes) bytes) in
    subst P (block_in-made bytes b is) (made_block-is bytes (block_in-has bytes b is))

-- ---- as they are cut

-- this is how the bytes are cut
abbrev IsWell : (bytes : List ℕ) → Cut → Type 0
IsWell bytes cut = (rest : List ℕ) × IsCut bytes cut.blocks rest × (cut.error ≡ error_left rest)

-- nothing is cut into nothing
nothing_is-well : IsWell [] (record { blocks = []; error = None })
nothing_is-well = (
  [],
  (
    refl,
    λ b following is. let has : HasBlock [] = block_in-has [] b (block_in-is [] b following is) in
        absurd (omega arith),
  ),
  refl,
)

-- a block in front of what is cut well, or none
cut_on-is : (b : ℕ) (bytes : List ℕ) (next : Cut) (r : Result Block Error) → block_in (b ∷ bytes) ≡ r
    → ((block : Block) → r ≡ Ok block → IsWell (drop (block_size (b ∷ bytes)) (b ∷ bytes)) next)
    → IsWell (b ∷ bytes) (cut_on r next)
cut_on-is b bytes next (Err e) is well = (
  b ∷ bytes,
  (
    refl,
    λ block following one. let found = block_in-is (b ∷ bytes) block following one in
        absurd cc,
  ),
  sym (ap error_of is),
)
cut_on-is b bytes next (Ok block) is well =
    let w = well block refl in
    (w.0, (drop (block_size (b ∷ bytes)) (b ∷ bytes), block_is-in (b ∷ bytes) block is, w.1), w.2)

-- by as many steps as there are bytes
cut_of_most-is : (n : ℕ) (bytes : List ℕ) → length bytes ≤ n → IsWell bytes (cut_of_most n bytes)
cut_of_most-is zero [] h = nothing_is-well
cut_of_most-is zero (b ∷ bytes) h = absurd (omega arith)
cut_of_most-is (suc n) [] h = nothing_is-well
cut_of_most-is (suc n) (b ∷ bytes) h =
    cut_on-is b bytes (cut_of_most n (drop (block_size (b ∷ bytes)) (b ∷ bytes))) (block_in (b ∷ bytes)) refl
    (λ block is.
    let has : HasBlock (b ∷ bytes) = block_in-has (b ∷ bytes) block is in
    let left = length-drop (block_size (b ∷ bytes)) (b ∷ bytes) in
    cut_of_most-is n (drop (block_size (b ∷ bytes)) (b ∷ bytes)) (omega arith))

-- bytes are cut
pub cut_of-is : (bytes : List ℕ)
    → (rest : List ℕ) × IsCut bytes (cut_of bytes).blocks rest × ((cut_of bytes).error ≡ error_left rest)
unfolding cut_of
cut_of-is bytes = cut_of_most-is (length bytes) bytes (omega arith)

-- ---- in no other way

-- where no block begins there is none
no_block : (bytes rest following : List ℕ) (b : Block) → bytes ≡ rest
    → ((block : Block) (more : List ℕ) → ¬ (IsBlock rest block more)) → ¬ (IsBlock bytes b following)
no_block bytes rest following b same none is =
    let P : List ℕ → Type 0 = λ l. IsBlock l b following in
    none b following (subst P same is)

-- and in no other way
pub cut-only : (bytes rest other_rest : List ℕ) (blocks others : List Block) → IsCut bytes blocks rest
    → IsCut bytes others other_rest
    → (blocks ≡ others) × (rest ≡ other_rest)
cut-only bytes rest other_rest [] [] cut other = (refl, sym cut.0 ∙ other.0)
cut-only bytes rest other_rest [] (o ∷ others) cut other = absurd (no_block bytes rest other.0 o cut.0 cut.1 other.1)
cut-only bytes rest other_rest (b ∷ blocks) [] cut other =
    absurd (no_block bytes other_rest cut.0 b other.0 other.1 cut.1)
cut-only bytes rest other_rest (b ∷ blocks) (o ∷ others) cut other =
    let following : other.0 ≡ cut.0 = sym (after_block bytes o other.0 other.1) ∙ after_block bytes b cut.0 cut.1 in
    let P : List ℕ → Type 0 = λ l. IsCut l others other_rest in
    let rests = cut-only cut.0 rest other_rest blocks others cut.2 (subst P following other.2) in
    let first : b ≡ o = let e : block_in bytes ≡ Ok b = block_in-is bytes b cut.0 cut.1 in
    let f : block_in bytes ≡ Ok o = block_in-is bytes o other.0 other.1 in cc in
    (ap (λ (block : Block). block ∷ blocks) first ∙ ap (λ (l : List Block). o ∷ l) rests.0, rests.1)
