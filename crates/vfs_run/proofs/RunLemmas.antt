-- How runs over a few lines may end, of which the second is the first bad one.
use Rattle.std.proofs.Common.{◌≡◌, ◌+◌, false, true, ℕ, zero, suc, List, [], ◌∷◌, take, None, Result, Ok, Err, refl, arith}
use Rattle.std.specs.Prelude.{All, IsSomeAnd, slice_get}
use Rattle.hex.specs.Hex.{decode_pairs}
use Rattle.vfs_run.specs.Lines.{IsRequest, EndsAs, line_of}
use Rattle.vfs_run.specs.Samples.{NamesTheSecond}
use Rattle.vfs_run.specs.declared.error.RunError.{RunError}
use Rattle.vfs_run.specs.declared.error.RunError.TheVariants.{BadLine, Io, OutOfMemory}

-- `0 `, which asks something
abbrev pub nothing_asked : List ℕ
nothing_asked = 48 ∷ 32 ∷ []

-- `16`, which doesn't
abbrev pub no_space : List ℕ
no_space = 49 ∷ 54 ∷ []

pub no_space_asks : IsRequest no_space → ⊥
no_space_asks asks =
    let no : false ≡ true = asks in cc

-- `limit 8192`, which doesn't either
abbrev pub a_limit : List ℕ
a_limit = 108 ∷ 105 ∷ 109 ∷ 105 ∷ 116 ∷ 32 ∷ 56 ∷ 49 ∷ 57 ∷ 50 ∷ []

limit_asks : IsRequest a_limit → ⊥
limit_asks asks =
    let no : false ≡ true = asks in cc

-- after the line that asks something, one that doesn't is the first such line
pub only_second :
    (second : List ℕ) (rest : List (List ℕ)) (index : ℕ) → (IsRequest second → ⊥)
    → All IsRequest (take index (nothing_asked ∷ second ∷ rest))
    → IsSomeAnd (slice_get (nothing_asked ∷ second ∷ rest) index) (λ line. line_of line ≡ None)
    → index ≡ 1
unfolding decode_pairs
only_second second rest zero unlike before bad = cc
only_second second rest (suc zero) unlike before bad = refl
only_second second rest (suc (suc index)) unlike before bad = absurd (unlike (before 1 [] (omega arith)))

-- a run over lines that don't all ask something, whose first bad line can only be this one
ends_at :
    (counted index : ℕ) (lines : List (List ℕ)) → counted + index ≡ 1 → (All IsRequest lines → ⊥)
    → ((i : ℕ) → All IsRequest (take i lines)
    → IsSomeAnd (slice_get lines i) (λ line. line_of line ≡ None) → i ≡ index)
    → (result : Result (Unit {0}) RunError) → EndsAs counted lines result → NamesTheSecond result
ends_at counted index lines second unlike only (Ok done) all = unlike all
ends_at counted index lines second unlike only (Err (BadLine named)) bad = λ number e.
    let same : number ≡ named = cc in
    let is : bad.index ≡ index = only bad.index bad.before bad.bad in
    omega (arith, bad.numbered, second)
ends_at counted index lines second unlike only (Err Io) h = λ number e. cc
ends_at counted index lines second unlike only (Err OutOfMemory) h = λ number e. cc

-- `0 `, `16` and `17`
abbrev pub three_lines : List (List ℕ)
three_lines = nothing_asked ∷ no_space ∷ (49 ∷ 55 ∷ []) ∷ []

pub ends_at_the_second :
    (result : Result (Unit {0}) RunError) → EndsAs 0 three_lines result → NamesTheSecond result
ends_at_the_second =
    ends_at 0 1 three_lines refl (λ all. no_space_asks (all 1 [] (omega arith)))
    (λ i. only_second no_space ((49 ∷ 55 ∷ []) ∷ []) i no_space_asks)

-- `16`, after a line that was counted
abbrev pub one_line : List (List ℕ)
one_line = no_space ∷ []

only_first :
    (index : ℕ) → All IsRequest (take index one_line) → index ≡ 0
only_first zero before = refl
only_first (suc index) before = absurd (no_space_asks (before 0 [] (omega arith)))

pub ends_after_the_limit :
    (result : Result (Unit {0}) RunError) → EndsAs 1 one_line result → NamesTheSecond result
ends_after_the_limit =
    ends_at 1 0 one_line refl (λ all. no_space_asks (all 0 [] (omega arith)))
    (λ i before bad. only_first i before)

-- `0 ` and `limit 8192`
abbrev pub late_limit : List (List ℕ)
late_limit = nothing_asked ∷ a_limit ∷ []

pub ends_at_the_late_limit :
    (result : Result (Unit {0}) RunError) → EndsAs 0 late_limit result → NamesTheSecond result
ends_at_the_late_limit =
    ends_at 0 1 late_limit refl (λ all. limit_asks (all 1 [] (omega arith)))
    (λ i. only_second a_limit [] i limit_asks)
