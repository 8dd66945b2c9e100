use Rattle.laws_turns.proofs.uses.turns.turns_by_what_they_tell.Goals as goal

pub returns-clause-told : goal.returns-clause-told
returns-clause-told c = λ limits options after t turn.
    c.turns_are_told_by_witnesses.ensures.as_told limits options after t _ turn

pub returns-clause-is_turn : goal.returns-clause-is_turn
returns-clause-is_turn c = λ limits options after t told.
    c.turns_are_told_by_witnesses.ensures.plainly limits options after t _ told
