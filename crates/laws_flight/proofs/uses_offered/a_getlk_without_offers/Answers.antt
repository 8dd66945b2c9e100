use Rattle.laws_flight.specs.Uses.{getlk}
use Rattle.laws_flight.proofs.uses_offered.a_getlk_without_offers.Goals as goal

pub returns-clause-asks : goal.returns-clause-asks
returns-clause-asks c = λ limits. c.what_offers_nothing_is_virtiofsds.ensures.asks limits getlk

pub returns-clause-its : goal.returns-clause-its
returns-clause-its c = λ limits options after turn is. c.what_offers_nothing_is_virtiofsds.ensures.its limits options after turn

pub returns-clause-no_others : goal.returns-clause-no_others
returns-clause-no_others c = λ limits options after t is none turn.
    (c.what_offers_nothing_is_virtiofsds.ensures.no_others limits options after t turn none).1
