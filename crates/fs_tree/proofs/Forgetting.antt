-- Lookups of many nodes, taken back one after another.
use Rattle.std.proofs.Common.{◌≡◌, ◌<◌, ◌+◌, ℕ, suc, List, length, drop, get_or, sym, ap, ◌∙◌, add-one}
use Rattle.std.proofs.Math.Seq.{drop-cons}
use Rattle.fs_tree.specs.State.{State}
use Rattle.fs_tree.specs.Tree.{forgotten, all_forgotten}

-- one more is taken back, and the others are left
pub forgotten_more : (s next all : State) (xs : List (ℕ × ℕ)) (i : ℕ) (d : ℕ × ℕ)
    → i < length xs
    → next ≡ forgotten s (get_or xs i d).0 (get_or xs i d).1
    → all_forgotten s (drop i xs) ≡ all
    → all_forgotten next (drop (i + 1) xs) ≡ all
forgotten_more s next all xs i d within step so_far =
    let more = drop (suc i) xs in
    let whole = sym (ap (all_forgotten s) (drop-cons xs i d within)) ∙ so_far in
    rw add-one (ap (λ t. all_forgotten t more) step ∙ whole)
