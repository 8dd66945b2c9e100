use Rattle.std.proofs.Common.{ℕ, ◌<◌, ◌≤◌, ◌^◌, arith}
use Rattle.std.proofs.Math.Nat.{pow-le-pow_right}
use Rattle.std.proofs.lemmas.Grind.{common_steps}
use Rattle.vfs_run.proofs.line.parse_number.Goals as goal

-- a number of the digits before another one has at most eight
eight_digits : (i length most number : ℕ) → i < length → length ≤ most → most ≤ 9 → number < 10 ^ i → number < 100000000
eight_digits i length most number before few bound small =
    let ten : 0 < 10 = omega arith in
    let within : i ≤ 8 = omega arith in
    let up : 10 ^ i ≤ 10 ^ 8 = pow-le-pow_right ten within in
    omega (arith, up)

pub overflow_mul-number : goal.overflow_mul-number
overflow_mul-number c =
    let small = eight_digits _ _ _ _ c.loop-byte-test.true c.if-text-most.false c.requires c.loop-byte.invariant.small in
    omega arith

pub overflow_add-number : goal.overflow_add-number
overflow_add-number c =
    let small = eight_digits _ _ _ _ c.loop-byte-test.true c.if-text-most.false c.requires c.loop-byte.invariant.small in
    grind (arith, common_steps, small)

pub returns : goal.returns
returns c = grind (arith, common_steps)

pub loop-byte-preserved : goal.loop-byte-preserved
loop-byte-preserved c = grind (arith, common_steps)

pub returns-then-not-is_ascii_digit : goal.returns-then-not-is_ascii_digit
returns-then-not-is_ascii_digit c = grind (arith, common_steps)
