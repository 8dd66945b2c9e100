use Rattle.std.proofs.Common.{◌≤◌, ℕ, zero, suc, [], ◌∷◌, None, take, arith}
use Rattle.vfs_files.specs.Calls.{Destroy}
use Rattle.vfs_files.specs.Runs.{Called}
use Rattle.vfs_grammar.specs.Books.{answered, sent}
use Rattle.laws_tree.proofs.uses.a_run_that_ends.Goals as goal

none_sent : (n k : ℕ) → sent n (take k []) ≤ answered n (take k [])
none_sent n zero = omega arith
none_sent n (suc k) = omega arith

pub returns : goal.returns
returns c = λ old new answer tree run n.
    let counts = (c.runs_keep_trees.ensures None old new (Called Destroy answer ∷ []) tree run).1 n (none_sent n) in
    omega (arith, counts)
