use Rattle.std.proofs.Common.{◌≡◌, List, [], ◌∷◌, ◌++◌}
use Rattle.laws_flight.specs.Flight.{Waiting}
use Rattle.laws_flight.proofs.numbers.nothing_is_answered_unasked.Goals as goal

none_waits : (before following : List Waiting) (w : Waiting) → [] ≡ before ++ w ∷ following → ⊥
none_waits [] following w e = let f = e in cc
none_waits (x ∷ xs) following w e = let f = e in cc

pub returns : goal.returns
returns c = λ limits w t after h. none_waits h.0 h.1 w h.2
