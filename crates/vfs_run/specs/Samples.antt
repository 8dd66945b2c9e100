-- How runs over a few lines end, as small callers have it. No promise rests on it.
use Rattle.std.specs.Prelude.{◌≡◌, ℕ, Result, MatchResult}
use Rattle.vfs_run.specs.declared.error.RunError.{RunError}
use Rattle.vfs_run.specs.declared.error.RunError.TheVariants.{BadLine}

-- a run doesn't end well, and the only line that it may name is the second
abbrev pub NamesTheSecond : Result (Unit {0}) RunError → Type 0
NamesTheSecond result =
    MatchResult result (λ done. ⊥) (λ e. (number : ℕ) → e ≡ BadLine number → number ≡ 2)
