use Rattle.std.proofs.Common.{◌++◌, ◌≡◌, ◌≤◌, IfOk, Result, Ok, Err, Option, ℕ, arith}
use Rattle.vfs_files.specs.TransferLaws.{transfer_tells}
use Rattle.vfs_bench.proofs.seeded.contents.Contents.write_from.Goals as goal

-- a number that is told is within the count
at_most : (len count : ℕ) (result : Result ℕ (Option ℕ))
    → IfOk result (λ n. (n ≡ len) × (n ≤ count)) → IfOk result (λ n. n ≤ count)
at_most len count (Ok n) h = h.1
at_most len count (Err fault) h = h

pub returns-then-self-eq0-clause-within : goal.returns-then-self-eq0-clause-within
returns-then-self-eq0-clause-within g c =
    at_most _ _ _ (transfer_tells _ _ _ _ _ _ _ _ c.write_to_file_at.ensures.2)

pub returns-in_default-clause-within : goal.returns-in_default-clause-within
returns-in_default-clause-within g c =
    let tells = transfer_tells _ _ _ _ _ _ _ _ c.in_ok-moved.ensures.2 in
    omega (arith, tells.1)

pub overflow_sub-size : goal.overflow_sub-size
overflow_sub-size g c =
    let tells = transfer_tells _ _ _ _ _ _ _ _ c.in_ok-moved.ensures.2 in
    omega (arith, tells.1)

pub overflow_add-result : goal.overflow_add-result
overflow_add-result g c =
    let first = transfer_tells _ _ _ _ _ _ _ _ c.in_ok-moved.ensures.2 in
    let second = transfer_tells _ _ _ _ _ _ _ _ c.in-Ok.ensures.2 in
    omega (arith, first.1, second.1, c.ranges.size)

pub returns-in-Ok-clause-taken : goal.returns-in-Ok-clause-taken
returns-in-Ok-clause-taken g c =
    let t = c.in_ok-moved.ensures in
    let u = c.in-Ok.ensures in
    (t.0 ++ u.0, g.met.R.ZeroCopyReader.one_then_other _ _ _ _ _ t.1 u.1)

pub returns-in-Ok-clause-within : goal.returns-in-Ok-clause-within
returns-in-Ok-clause-within g c =
    let first = transfer_tells _ _ _ _ _ _ _ _ c.in_ok-moved.ensures.2 in
    let second = transfer_tells _ _ _ _ _ _ _ _ c.in-Ok.ensures.2 in
    omega (arith, first.1, second.1)

pub returns-in-Err-clause-taken : goal.returns-in-Err-clause-taken
returns-in-Err-clause-taken g c =
    let t = c.in_ok-moved.ensures in
    let u = c.in-Err.ensures in
    (t.0 ++ u.0, g.met.R.ZeroCopyReader.one_then_other _ _ _ _ _ t.1 u.1)
