use Rattle.std.proofs.Common.{[], ◌∷◌, refl}
use Rattle.vfs_grammar.specs.Turn.{Turn}
use Rattle.laws_flight.specs.Flight.{Begins, Completes, IsAlone}
use Rattle.laws_flight.proofs.uses.one_after_another.Goals as goal

alone : (t : Turn) → IsAlone t []
alone t = record { init = λ offered want init. refl; destroy = λ answer destroy. refl }

pub returns : goal.returns
returns c = λ limits a b s t x y first under then.
    let in_order = c.turns_in_flight_are_in_order.ensures limits a.options
    (Begins a ∷ Completes a s x ∷ Begins b ∷ Completes b t y ∷ [])
    (refl, ([], [], refl, first, alone s, (under, ([], [], refl, then, alone t, tt)))) in
    (in_order.0, in_order.1)
