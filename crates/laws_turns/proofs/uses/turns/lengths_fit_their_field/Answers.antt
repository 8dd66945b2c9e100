use Rattle.laws_turns.proofs.uses.turns.lengths_fit_their_field.Goals as goal

pub returns : goal.returns
returns c = λ limits options after n t turn answer some.
    (c.replies_begin_with_their_header.ensures limits options after n t turn answer some).fits
