use Rattle.test_uses.proofs.clauses.messages.segment_after_a_record.Goals as goal

pub returns-in-Ok : goal.returns-in-Ok
returns-in-Ok c = rw c.requires at c.in-Ok.ensures.pieces
