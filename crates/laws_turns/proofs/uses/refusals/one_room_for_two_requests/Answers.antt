use Rattle.std.proofs.Common.{◌∙◌, length, ap}
use Rattle.laws_turns.proofs.uses.refusals.one_room_for_two_requests.Goals as goal

pub returns-clause-length : goal.returns-clause-length
returns-clause-length c = λ limits options between after s t first then same.
    c.rooms_stay.ensures.length limits between after t then ∙ ap length same
    ∙ c.rooms_stay.ensures.length limits options between s first

pub returns-clause-silent : goal.returns-clause-silent
returns-clause-silent c = λ limits options after s t turn same none.
    c.rooms_stay.ensures.silent limits options after t turn none ∙ same
