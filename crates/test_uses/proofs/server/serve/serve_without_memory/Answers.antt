use Rattle.test_uses.proofs.server.serve.serve_without_memory.Goals as goal

pub returns-clause-memory : goal.returns-clause-memory
returns-clause-memory g c = λ is. rw is at c.serve.ensures.served

pub returns-clause-segments : goal.returns-clause-segments
returns-clause-segments g c = λ error is. (rw is at c.serve.ensures.served).1
