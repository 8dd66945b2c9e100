use Rattle.std.proofs.Common.{[], ◌∷◌, refl}
use Rattle.laws_flight.specs.Flight.{Begins, Completes}
use Rattle.laws_flight.proofs.uses.answer_in_other_order.Goals as goal

pub returns : goal.returns
returns c = λ limits a b s t x y first then.
    c.turns_in_flight_keep_books.ensures limits []
    (Begins a ∷ Begins b ∷ Completes b t y ∷ Completes a s x ∷ [])
    ([], a ∷ [], refl, then, ([], [], refl, first, tt))
