use Rattle.laws_history.proofs.uses.handle_each_within_limits.Goals as goal

pub returns : goal.returns
returns g c = (c.history_has_turns.ensures.turns _ _ _ c.handle_each.ensures.history).1
