-- What the calls that read extensions say, of blocks that are gone over.
use Rattle.std.proofs.Common.{◌≡◌, ◌-◌, ◌<◌, ◌≤◌, ℕ, List, length, take, drop, Bool, true, false, if◌then◌else◌, None, Result, Ok, Err, refl, ap, sym, ◌∙◌, ◌⊎◌, inl, inr, subst, ◌&&◌, MatchResult, arith, length-drop}
use Rattle.std.specs.Prelude.{nat_lt}
use Rattle.std.proofs.lemmas.Bool.{le-ltb}
use Rattle.std.proofs.lemmas.List.{take_all}
use Rattle.vfs_files.specs.Values.{ExtensionValues, extension_values_of}
use Rattle.vfs_files.specs.declared.extensions.Extensions.{Extensions}
use Rattle.vfs_grammar.specs.Extensions.{Block, Received, block_in, cut_of, received_at_end, no_extensions}
use Rattle.vfs_grammar.specs.Words.{receive, extensions_of, extensions_after, reads_extensions, nothing_received}
use Rattle.vfs_grammar.specs.declared.error.Error.{Error}
use Rattle.vfs_grammar.specs.declared.error.Error.TheVariants.{OutOfMemory}
use Rattle.vfs_grammar.proofs.Blocks.{extensions_in-cut, extensions_of-end, extensions_of-fault, extensions_of-block}
use Rattle.vfs_messages.specs.Parts.{GivesValue, MayHoldContext}

-- ---- where a step of going over blocks ends, of what all of them say

-- at what is no block
pub says-fault : (options : ℕ) (r : Received) (bytes : List ℕ) (e : Error) (all : Result ExtensionValues Error)
    → extensions_of options r (cut_of bytes) ≡ all → 0 < length bytes → block_in bytes ≡ Err e → all ≡ Err e
says-fault options r bytes e all same h is = sym same ∙ extensions_of-fault options r bytes e h is

-- at a block that is bad, or that there is no memory for
pub says-bad : (options : ℕ) (r : Received) (bytes : List ℕ) (b : Block) (e : Error)
    (all : Result ExtensionValues Error)
    → extensions_of options r (cut_of bytes) ≡ all → block_in bytes ≡ Ok b
    → (receive options r b ≡ Err e) ⊎ (MayHoldContext options × (e ≡ OutOfMemory))
    → (all ≡ Err e) ⊎ (MayHoldContext options × (e ≡ OutOfMemory))
says-bad options r bytes b e all same is (inl bad) =
    inl (sym same ∙ extensions_of-block options r bytes b is ∙ rw bad refl)
says-bad options r bytes b e all same is (inr memory) = inr memory

-- at the end of them
pub says-end : (options : ℕ) (r : Received) (bytes : List ℕ) (x : Result Extensions Error)
    (all : Result ExtensionValues Error)
    → extensions_of options r (cut_of bytes) ≡ all → length bytes ≡ 0
    → GivesValue (MayHoldContext options) extension_values_of x (received_at_end options None r)
    → GivesValue (MayHoldContext options) extension_values_of x all
says-end options r bytes x all same none gives =
    let P : Result ExtensionValues Error → Type 0 =
    λ said. GivesValue (MayHoldContext options) extension_values_of x said in
    subst P (sym (extensions_of-end options r bytes none) ∙ same) gives

-- ---- which bytes are gone over

-- three ways by two tests, where the second fails
unread : {A : Type 0} (short reads : Bool) (x y z : A) → reads ≡ false
    → (if short && reads then x else if reads then y else z) ≡ z
unread short true x y z h = absurd cc
unread true false x y z h = refl
unread false false x y z h = refl

-- and where only the first fails
read : {A : Type 0} (short reads : Bool) (x y z : A) → short ≡ false → reads ≡ true
    → (if short && reads then x else if reads then y else z) ≡ y
read true reads x y z h k = absurd cc
read false true x y z h k = refl
read false false x y z h k = absurd cc

-- nothing is read where neither option is agreed on
pub extensions_after-unread : (options skip : ℕ) (bytes : List ℕ) → reads_extensions options ≡ false
    → extensions_after options skip bytes ≡ Ok no_extensions
extensions_after-unread options skip bytes h =
    rw (extensions_in-cut options (drop skip bytes)) (unread (nat_lt (length bytes) skip) (reads_extensions options) _ _ _ h)

-- what is gone over otherwise
extensions_after-read : (options skip : ℕ) (bytes : List ℕ) → reads_extensions options ≡ true → skip ≤ length bytes
    → extensions_after options skip bytes ≡ extensions_of options nothing_received (cut_of (drop skip bytes))
extensions_after-read options skip bytes h long =
    rw (extensions_in-cut options (drop skip bytes))
    (read (nat_lt (length bytes) skip) (reads_extensions options) _ _ _ (le-ltb (length bytes) skip long) h)

-- what is found in it is what is found after what is skipped
pub gives-after : (options skip : ℕ) (bytes : List ℕ) (x : Result Extensions Error) → reads_extensions options ≡ true
    → skip ≤ length bytes
    → GivesValue (MayHoldContext options) extension_values_of x
    (extensions_of options nothing_received (cut_of (take (length bytes - skip) (drop skip bytes))))
    → GivesValue (MayHoldContext options) extension_values_of x (extensions_after options skip bytes)
gives-after options skip bytes x h long gives =
    let P : Result ExtensionValues Error → Type 0 =
    λ said. GivesValue (MayHoldContext options) extension_values_of x said in
    let all : take (length bytes - skip) (drop skip bytes) ≡ drop skip bytes =
    take_all (length bytes - skip) (drop skip bytes) (omega (arith, length-drop skip bytes)) in
    subst P (ap (λ (following : List ℕ). extensions_of options nothing_received (cut_of following)) all
    ∙ sym (extensions_after-read options skip bytes h long)) gives

-- what is found where it is known what bytes say
pub GivesValue-at_ok : {A B : Type 0} (wanted : Type 0) (value : A → B) (x : Result A Error)
    (said : Result B Error) (v : B)
    → GivesValue wanted value x said → said ≡ Ok v → MatchResult x (λ y. value y ≡ v) (λ e. wanted × (e ≡ OutOfMemory))
GivesValue-at_ok wanted value (Ok y) said v gives is = cc
GivesValue-at_ok wanted value (Err e) said v (inl refused) is = absurd cc
GivesValue-at_ok wanted value (Err e) said v (inr memory) is = memory
