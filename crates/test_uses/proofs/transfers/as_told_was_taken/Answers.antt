use Rattle.std.proofs.Common.{◌≡◌, ◌≤◌, ◌+◌, ℕ, List, length, drop, Option, Result, Ok, Err, IfOk, sym, ap, ◌∙◌, drop_at, arith}
use Rattle.vfs_segments.specs.Unread.{Unread}
use Rattle.vfs_files.specs.TransferLaws.{transfer_tells}
use Rattle.vfs_server.specs.Takes.{Takes}
use Rattle.test_uses.proofs.transfers.as_told_was_taken.Goals as goal

-- as many bytes were taken as a number tells
told :
    (old new : Unread) (bytes : List ℕ) (count : ℕ) (result : Result ℕ (Option ℕ))
    → Takes old bytes new → IfOk result (λ n. (n ≡ length bytes) × (n ≤ count))
    → IfOk result (λ n. new.left ≡ drop n old.left)
told old new bytes count (Ok n) taken tells =
    sym (ap (drop n) taken.left ∙ drop_at bytes new.left n (sym tells.0))
told old new bytes count (Err fault) taken tells = tt

counted :
    (old new : Unread) (bytes : List ℕ) (count : ℕ) (result : Result ℕ (Option ℕ))
    → Takes old bytes new → IfOk result (λ n. (n ≡ length bytes) × (n ≤ count))
    → IfOk result (λ n. new.taken ≡ old.taken + n)
counted old new bytes count (Ok n) taken tells = omega (arith, taken.taken, tells.0)
counted old new bytes count (Err fault) taken tells = tt

within :
    (bytes : List ℕ) (count : ℕ) (result : Result ℕ (Option ℕ))
    → IfOk result (λ n. (n ≡ length bytes) × (n ≤ count)) → IfOk result (λ n. n ≤ count)
within bytes count (Ok n) tells = tells.1
within bytes count (Err fault) tells = tt

pub returns-clause-within : goal.returns-clause-within
returns-clause-within g c =
    let moved = c.write_to_file_at.ensures in
    within moved.0 _ _ (transfer_tells _ _ _ _ _ _ _ _ moved.2)

pub returns-clause-told : goal.returns-clause-told
returns-clause-told g c =
    let moved = c.write_to_file_at.ensures in
    told _ _ moved.0 _ _ moved.1 (transfer_tells _ _ _ _ _ _ _ _ moved.2)

pub returns-clause-counted : goal.returns-clause-counted
returns-clause-counted g c =
    let moved = c.write_to_file_at.ensures in
    counted _ _ moved.0 _ _ moved.1 (transfer_tells _ _ _ _ _ _ _ _ moved.2)
