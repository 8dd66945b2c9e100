use Rattle.std.proofs.Common.{◌≡◌, ℕ, refl, arith}
use Rattle.std.specs.Int.{bit_at}
use Rattle.laws_turns.proofs.uses.turns.options_by_themselves.Goals as goal

pub returns-clause-supported : goal.returns-clause-supported
returns-clause-supported c = λ limits options after offered t turn at e.
    (c.options_are_agreed.ensures limits options after offered 0 t turn e).supported_too 40 at refl

zero_or_one : (n k : ℕ) → (bit_at n k ≡ 1 → ⊥) → bit_at n k ≡ 0
zero_or_one n k h = omega arith

pub returns-clause-unoffered : goal.returns-clause-unoffered
returns-clause-unoffered c = λ limits options after want t turn e.
    zero_or_one after 40 (λ at. absurd (let a : bit_at 0 40 ≡ 1 = (c.options_are_agreed.ensures limits options after 0 want t turn e).offered_only 40 at in omega arith))
