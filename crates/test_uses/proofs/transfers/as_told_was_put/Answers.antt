use Rattle.std.proofs.Common.{◌≡◌, ◌≤◌, ◌+◌, ℕ, List, length, Option, Result, Ok, Err, IfOk, arith, ap, length-append}
use Rattle.vfs_segments.specs.Written.{Written, Moves}
use Rattle.vfs_files.specs.TransferLaws.{transfer_tells}
use Rattle.test_uses.proofs.transfers.as_told_was_put.Goals as goal

-- as many bytes were put as a number tells
told :
    (old new : Written) (bytes : List ℕ) (count : ℕ) (result : Result ℕ (Option ℕ))
    → Moves old bytes new → IfOk result (λ n. (n ≡ length bytes) × (n ≤ count))
    → IfOk result (λ n. length new.passed ≡ length old.passed + n)
told old new bytes count (Ok n) put tells =
    omega (arith, ap length put.passed, length-append old.passed bytes, tells.0)
told old new bytes count (Err fault) put tells = tt

room :
    (old new : Written) (bytes : List ℕ) (count : ℕ) (result : Result ℕ (Option ℕ))
    → Moves old bytes new → IfOk result (λ n. (n ≡ length bytes) × (n ≤ count))
    → IfOk result (λ n. length new.left + n ≡ length old.left)
room old new bytes count (Ok n) put tells = omega (arith, put.left, tells.0)
room old new bytes count (Err fault) put tells = tt

within :
    (bytes : List ℕ) (count : ℕ) (result : Result ℕ (Option ℕ))
    → IfOk result (λ n. (n ≡ length bytes) × (n ≤ count)) → IfOk result (λ n. n ≤ count)
within bytes count (Ok n) tells = tells.1
within bytes count (Err fault) tells = tt

pub returns-clause-within : goal.returns-clause-within
returns-clause-within g c =
    let moved = c.read_from_file_at.ensures in
    within moved.0 _ _ (transfer_tells _ _ _ _ _ _ _ _ moved.2)

pub returns-clause-told : goal.returns-clause-told
returns-clause-told g c =
    let moved = c.read_from_file_at.ensures in
    told _ _ moved.0 _ _ moved.1 (transfer_tells _ _ _ _ _ _ _ _ moved.2)

pub returns-clause-room : goal.returns-clause-room
returns-clause-room g c =
    let moved = c.read_from_file_at.ensures in
    room _ _ moved.0 _ _ moved.1 (transfer_tells _ _ _ _ _ _ _ _ moved.2)

pub returns-clause-hold : goal.returns-clause-hold
returns-clause-hold g c =
    let moved = c.read_from_file_at.ensures in
    (moved.1.held_at, moved.1.held)

pub returns-clause-segments : goal.returns-clause-segments
returns-clause-segments g c =
    let moved = c.read_from_file_at.ensures in
    moved.1.lengths
