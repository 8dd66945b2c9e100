use Rattle.test_uses.proofs.clauses.server.a_read_agrees_on_nothing.Goals as goal

pub returns : goal.returns
returns g c = λ call size old new writer writer_after answer reads. (reads.same_options, reads.same_limits)
