use Rattle.laws_flight.proofs.uses_offered.a_getlk_tells_no_row.Goals as goal

pub returns : goal.returns
returns c = λ limits options after t is none turn.
    (c.what_offers_nothing_is_virtiofsds.ensures.no_others limits options after t turn none).0
