use Rattle.std.proofs.Common.{◌∙◌}
use Rattle.laws_flight.proofs.numbers.a_room_is_as_long_as_asked.Goals as goal

pub returns : goal.returns
returns c = λ limits w t after is.
    c.rooms_stay.ensures.length limits w.options after t is.turn ∙ is.room_len
