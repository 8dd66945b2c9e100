-- How a session was read whose third line is bad, after one that sets the limit and a request.
use Rattle.std.proofs.Common.{◌≡◌, false, true, ℕ, List, [], ◌∷◌, Option, Some, None, arith}
use Rattle.hex.specs.Hex.{decode_pairs}
use Rattle.vfs_run.proofs.RunLemmas.{no_space, no_space_asks, nothing_asked, only_second}
use Rattle.vfs_run.specs.Lines.{Request, EndsAs, line_of, values_of, before_bad, ending}

-- `0 `, which asks something, and `16`, which doesn't
abbrev pub two_lines : List (List ℕ)
two_lines = nothing_asked ∷ no_space ∷ []

-- what the first of them asks
abbrev pub asked : Request
asked = record { rooms = 0 ∷ []; segments = [] ∷ [] }

-- the bad line is the third one
pub third_is_bad : (bad : Option ℕ) → EndsAs 1 two_lines (ending bad) → bad ≡ Some 3
unfolding decode_pairs
third_is_bad None all =
    let no : false ≡ true = all 1 [] (omega arith) in cc
third_is_bad (Some number) bad =
    let second : bad.index ≡ 1 = only_second no_space [] bad.index no_space_asks bad.before bad.bad in
    let third : number ≡ 3 = omega (arith, bad.numbered) in
    cc

-- what is asked before it is one request
pub one_is_asked :
    (bad : Option ℕ) (requests : List Request) → bad ≡ Some 3
    → values_of line_of (before_bad 1 bad two_lines) ≡ Some requests → requests ≡ asked ∷ []
unfolding decode_pairs
one_is_asked bad requests third read = cc
