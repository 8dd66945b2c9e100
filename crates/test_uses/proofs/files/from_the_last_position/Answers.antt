use Rattle.std.proofs.Common.{◌≡◌, ◌<◌, ◌+◌, ◌^◌, ◌-◌, ℕ, Option, Result, Ok, Err, IfOk, arith}
use Rattle.vfs_files.specs.TransferLaws.{transfer_below}
use Rattle.test_uses.proofs.files.from_the_last_position.Goals as goal

-- a number after the last position is 0
no_more :
    (result : Result ℕ (Option ℕ)) → IfOk result (λ n. 2 ^ 64 - 1 + n < 2 ^ 64)
    → IfOk result (λ n. n ≡ 0)
no_more (Ok n) below = omega (arith, below)
no_more (Err fault) below = tt

pub returns : goal.returns
returns g c =
    let t = c.read_from_file_at.ensures in
    no_more _ (transfer_below _ _ _ _ _ _ _ _ (omega arith) t.2)
