use Rattle.std.proofs.Common.{◌≡◌, ◌≤◌, ℕ, zero, suc, false, [], ◌∷◌, take, sum_by, arith, refl}
use Rattle.vfs_grammar.specs.Books.{accepted, delivered}
use Rattle.laws_history.specs.History.{Handled}
use Rattle.laws_tree.specs.Runs.{last_turns}
use Rattle.laws_tree.proofs.uses.one_request_of_a_new_tree.Goals as goal

within_nothing : (n k : ℕ) → sum_by (accepted n) (take k []) ≤ sum_by (delivered n) (take k [])
within_nothing n zero = omega arith
within_nothing n (suc k) = omega arith

pub returns-clause-ended : goal.returns-clause-ended
returns-clause-ended c = λ limits now first new t n is history ends some there.
    let kept = c.new_trees_are_kept.ensures 0 0 0o755 limits false now first new (Handled t ∷ []) is history tt in
    let last : last_turns (t ∷ []) ≡ [] = rw ends refl in
    kept.leaves_none n some (rw last (within_nothing n)) (rw last refl) there

pub returns-clause-kept : goal.returns-clause-kept
returns-clause-kept c = λ limits now first new t is history.
    let kept = c.new_trees_are_kept.ensures 0 0 0o755 limits false now first new (Handled t ∷ []) is history tt in
    (kept.books, kept.tree)
