use Rattle.test_uses.proofs.clauses.segments.pair_and_spelled.Goals as goal

pub returns-clause-first : goal.returns-clause-first
returns-clause-first g c =
    c.take_after_put.ensures c.args.first c.write_pair.ensures.in_width c.write_pair.ensures.in_range

pub returns-clause-second : goal.returns-clause-second
returns-clause-second g c =
    c.take_after_put-2.ensures c.args.second c.write_pair.ensures.second_in_width
    c.write_pair.ensures.second_in_range
