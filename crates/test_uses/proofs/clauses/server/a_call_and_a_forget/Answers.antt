use Rattle.test_uses.proofs.clauses.server.a_call_and_a_forget.Goals as goal

pub returns : goal.returns
returns g c = λ call answer ctx node old new calls. (calls.0, calls.1, calls.2)
