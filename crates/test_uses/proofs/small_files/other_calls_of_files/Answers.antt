use Rattle.test_uses.proofs.small_files.other_calls_of_files.Goals as goal

pub returns-clause-not_served : goal.returns-clause-not_served
returns-clause-not_served c = λ ctx parent name mode umask ext answer old new h. (h.0, h.1)

pub returns-clause-no_iterator : goal.returns-clause-no_iterator
returns-clause-no_iterator c = λ ctx parent name items old new h. h
