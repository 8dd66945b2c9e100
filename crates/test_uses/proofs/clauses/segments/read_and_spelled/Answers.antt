use Rattle.test_uses.proofs.clauses.segments.read_and_spelled.Goals as goal

pub returns-in-Ok : goal.returns-in-Ok
returns-in-Ok g c = c.take_after_put.ensures c.in-Ok.x c.in-Ok.ensures.in_width c.in-Ok.ensures.in_range
