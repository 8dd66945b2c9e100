use Rattle.test_uses.proofs.clauses.segments.padded_and_spelled.Goals as goal

pub returns : goal.returns
returns g c =
    c.take_after_put.ensures c.args.x c.write_padded.ensures.in_width c.write_padded.ensures.in_range
