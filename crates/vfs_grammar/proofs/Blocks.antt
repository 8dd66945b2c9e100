-- Bytes that are cut into blocks: the first block, and those after it.
use Rattle.std.proofs.Common.{◌≡◌, ◌-◌, ◌<◌, ◌≤◌, ℕ, zero, suc, List, [], ◌∷◌, length, take, drop, Bool, true, false, if◌then◌else◌, None, Result, Ok, Err, refl, ap, sym, ◌∙◌, arith, length-drop, ltb-false}
use Rattle.std.specs.Prelude.{nat_lt}
use Rattle.vfs_wire.specs.Fields.{value_of}
use Rattle.vfs_wire.specs.Records.{ext_header}
use Rattle.vfs_files.specs.Values.{ExtensionValues}
use Rattle.vfs_grammar.specs.Extensions.{Block, Cut, Received, block_in, cut_on, cut_of_most, cut_of, error_or, received_at_end, values_in, extensions_in, no_extensions}
use Rattle.vfs_grammar.specs.Words.{block_size, receive, extensions_of, reads_extensions, nothing_received}
use Rattle.vfs_grammar.specs.declared.error.Error.{Error}
use Rattle.vfs_grammar.specs.declared.error.Error.TheVariants.{DecodeMessage, InvalidHeaderLength}

-- a block has a header, and no more bytes than there are
pub record HasBlock (bytes : List ℕ) : Type 0 where
  pub header : 8 ≤ block_size bytes
  pub whole : block_size bytes ≤ length bytes

-- two tests that both let pass
passed : (b c : Bool) (f g : Error) (y x : Block) → (if b then Err f else if c then Err g else Ok y) ≡ Ok x
    → (b ≡ false) × (c ≡ false)
passed true c f g y x is = absurd cc
passed false true f g y x is = absurd cc
passed false false f g y x is = (refl, refl)

-- the same of a part
error_or-passed : {R : Type 0} (a : Bool) (b c : R → Bool) (r : R) (e f g : Error) (make : R → Block) (x : Block)
    → error_or (if a then Err e else Ok r) (λ k. if b k then Err f else if c k then Err g else Ok (make k)) ≡ Ok x
    → (b r ≡ false) × (c r ≡ false)
error_or-passed true b c r e f g make x is = absurd cc
error_or-passed false b c r e f g make x is = passed (b r) (c r) f g (make r) x is

-- bytes that begin with a block have one
pub block_in-has : (bytes : List ℕ) (b : Block) → block_in bytes ≡ Ok b → HasBlock bytes
block_in-has bytes b e =
    let h = error_or-passed (nat_lt (length bytes) 8) (λ r. nat_lt r.size 8) (λ r. nat_lt (length bytes) r.size)
    (value_of ext_header bytes) DecodeMessage InvalidHeaderLength DecodeMessage
    (λ r. record { ext_type = r.ext_type; body = take (r.size - 8) (drop 8 bytes) }) b e in
    record { header = omega (arith, ltb-false, h.0); whole = omega (arith, ltb-false, h.1) }

-- what comes after a fault isn't looked at
cut_on-same : (r : Result Block Error) (x y : Cut) → ((b : Block) → r ≡ Ok b → x ≡ y) → cut_on r x ≡ cut_on r y
cut_on-same (Err error) x y same = refl
cut_on-same (Ok b) x y same = ap (cut_on (Ok b)) (same b refl)

-- more than the bytes there are makes no difference
cut_of_most-enough : (n m : ℕ) (bytes : List ℕ) → length bytes ≤ n → length bytes ≤ m
    → cut_of_most n bytes ≡ cut_of_most m bytes
cut_of_most-enough zero zero bytes h k = refl
cut_of_most-enough zero (suc m) [] h k = refl
cut_of_most-enough zero (suc m) (b ∷ bytes) h k = absurd (omega arith)
cut_of_most-enough (suc n) zero [] h k = refl
cut_of_most-enough (suc n) zero (b ∷ bytes) h k = absurd (omega arith)
cut_of_most-enough (suc n) (suc m) [] h k = refl
cut_of_most-enough (suc n) (suc m) (b ∷ bytes) h k =
    cut_on-same (block_in (b ∷ bytes)) _ _ (λ block e.
    let has : HasBlock (b ∷ bytes) = block_in-has (b ∷ bytes) block e in
    let left = length-drop (block_size (b ∷ bytes)) (b ∷ bytes) in
    cut_of_most-enough n m (drop (block_size (b ∷ bytes)) (b ∷ bytes)) (omega arith) (omega arith))

-- the cut by the first block
cut_of-cons : (b : ℕ) (bytes : List ℕ)
    → cut_of (b ∷ bytes) ≡ cut_on (block_in (b ∷ bytes)) (cut_of (drop (block_size (b ∷ bytes)) (b ∷ bytes)))
unfolding cut_of
cut_of-cons b bytes = cut_on-same (block_in (b ∷ bytes)) _ _ (λ block e.
    let has : HasBlock (b ∷ bytes) = block_in-has (b ∷ bytes) block e in
    let left = length-drop (block_size (b ∷ bytes)) (b ∷ bytes) in
    cut_of_most-enough (length bytes) (length (drop (block_size (b ∷ bytes)) (b ∷ bytes)))
    (drop (block_size (b ∷ bytes)) (b ∷ bytes)) (omega arith) (omega arith))

-- the same of bytes that are there
cut_of-some : (bytes : List ℕ) → 0 < length bytes
    → cut_of bytes ≡ cut_on (block_in bytes) (cut_of (drop (block_size bytes) bytes))
cut_of-some [] h = absurd (omega arith)
cut_of-some (b ∷ bytes) h = cut_of-cons b bytes

-- at the end
pub extensions_of-end : (options : ℕ) (r : Received) (bytes : List ℕ) → length bytes ≡ 0
    → extensions_of options r (cut_of bytes) ≡ received_at_end options None r
unfolding cut_of
extensions_of-end options r [] h = refl
extensions_of-end options r (b ∷ bytes) h = absurd (omega arith)

-- where no block begins
pub extensions_of-fault : (options : ℕ) (r : Received) (bytes : List ℕ) (e : Error) → 0 < length bytes
    → block_in bytes ≡ Err e → extensions_of options r (cut_of bytes) ≡ Err e
extensions_of-fault options r bytes e h is = rw (cut_of-some bytes h, is) refl

-- two steps after a part that may be at fault
error_or-error_or : {A B C : Type 0} (x : Result A Error) (f : A → Result B Error) (g : B → Result C Error)
    → error_or (error_or x f) g ≡ error_or x (λ a. error_or (f a) g)
error_or-error_or (Err e) f g = refl
error_or-error_or (Ok a) f g = refl

-- a step after a part by equal steps
error_or-same : {A B : Type 0} (x : Result A Error) (f g : A → Result B Error) → ((a : A) → f a ≡ g a)
    → error_or x f ≡ error_or x g
error_or-same (Err e) f g same = refl
error_or-same (Ok a) f g same = same a

-- ---- what bytes say block by block is what their cut says

-- by the first block
values_in-step : (options most : ℕ) (r : Received) (rest : List ℕ) (first : Result Block Error)
    → ((block : Block) → first ≡ Ok block → (more : Received)
    → values_in options most more rest ≡ extensions_of options more (cut_of_most most rest))
    → error_or first (λ block. error_or (receive options r block) (λ more. values_in options most more rest))
    ≡ extensions_of options r (cut_on first (cut_of_most most rest))
values_in-step options most r rest (Err e) after = refl
values_in-step options most r rest (Ok block) after =
    error_or-same (receive options r block) _ _ (after block refl)
    ∙ sym (error_or-error_or (receive options r block) _ _)

values_in-cut : (options most : ℕ) (r : Received) (bytes : List ℕ) → length bytes ≤ most
    → values_in options most r bytes ≡ extensions_of options r (cut_of_most most bytes)
values_in-cut options zero r [] h = refl
values_in-cut options (suc most) r [] h = refl
values_in-cut options zero r (b ∷ bytes) h = absurd (omega arith)
values_in-cut options (suc most) r (b ∷ bytes) h =
    values_in-step options most r (drop (block_size (b ∷ bytes)) (b ∷ bytes)) (block_in (b ∷ bytes)) (λ block is more.
    let has : HasBlock (b ∷ bytes) = block_in-has (b ∷ bytes) block is in
    let left = length-drop (block_size (b ∷ bytes)) (b ∷ bytes) in
    values_in-cut options most more (drop (block_size (b ∷ bytes)) (b ∷ bytes)) (omega arith))

pub extensions_in-cut : (options : ℕ) (bytes : List ℕ)
    → extensions_in options bytes
    ≡ (if reads_extensions options then extensions_of options nothing_received (cut_of bytes) else Ok no_extensions)
unfolding extensions_in cut_of
extensions_in-cut options bytes =
    ap (λ (said : Result ExtensionValues Error). if reads_extensions options then said else Ok no_extensions)
    (values_in-cut options (length bytes) nothing_received bytes (omega arith))

-- ---- the cut by its first block

-- with one more block
pub extensions_of-block : (options : ℕ) (r : Received) (bytes : List ℕ) (b : Block) → block_in bytes ≡ Ok b
    → extensions_of options r (cut_of bytes) ≡ error_or (receive options r b)
    (λ more. extensions_of options more (cut_of (drop (block_size bytes) bytes)))
extensions_of-block options r bytes b is =
    let has : HasBlock bytes = block_in-has bytes b is in
    rw (cut_of-some bytes (omega arith), is) (error_or-error_or (receive options r b) _ _)

-- after a block that is well
pub says-more : (options : ℕ) (r more : Received) (bytes rest : List ℕ) (b : Block) (all : Result ExtensionValues Error)
    → extensions_of options r (cut_of bytes) ≡ all → block_in bytes ≡ Ok b → rest ≡ drop (block_size bytes) bytes
    → receive options r b ≡ Ok more → extensions_of options more (cut_of rest) ≡ all
says-more options r more bytes rest b all same is following well =
    rw following (sym (rw well at (extensions_of-block options r bytes b is)) ∙ same)
