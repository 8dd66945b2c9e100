use Rattle.std.proofs.Common.{◌≡◌, ℕ, refl, arith}
use Rattle.std.specs.Int.{bit_at}
use Rattle.vfs_grammar.proofs.uses.a_supported_option_is_agreed.Goals as goal

pub returns-clause-supported : goal.returns-clause-supported
returns-clause-supported c = λ offered options are_agreed at. are_agreed.supported_too 40 at refl

zero_or_one : (n k : ℕ) → (bit_at n k ≡ 1 → ⊥) → bit_at n k ≡ 0
zero_or_one n k h = omega arith

pub returns-clause-unoffered : goal.returns-clause-unoffered
returns-clause-unoffered c = λ offered options k are_agreed none.
    zero_or_one options k (λ at. absurd (let a : bit_at offered k ≡ 1 = are_agreed.offered_only k at in omega (arith, a, none)))
