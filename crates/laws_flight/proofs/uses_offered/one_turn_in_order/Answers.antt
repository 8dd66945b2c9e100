use Rattle.std.proofs.Common.{ℕ, subst, sym}
use Rattle.laws_flight.specs.OfferedTurns.{IsOfferedTurn}
use Rattle.laws_flight.proofs.uses_offered.one_turn_in_order.Goals as goal

pub returns : goal.returns
returns c = λ limits options after t h.
    subst (λ (n : ℕ). IsOfferedTurn limits options t n) (sym h.2) h.1
