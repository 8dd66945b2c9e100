use Rattle.test_uses.proofs.clauses.readings.an_item_was_looked_up.Goals as goal

pub returns : goal.returns
returns g c = λ ctx parent i old new entry found. found
