use Rattle.nizwarf_codec.proofs.ask.ask_left.Goals as goal

pub returns-then-create-clause-asked : goal.returns-then-create-clause-asked
returns-then-create-clause-asked c = λ following all. rw (c.if-create.true) (c.ask_as.ensures.asked following all)

pub returns-then-create-clause-memory : goal.returns-then-create-clause-memory
returns-then-create-clause-memory c none = c.ask_as.ensures.memory (rw (c.if-create.true) at none)

pub returns-else-create-clause-memory : goal.returns-else-create-clause-memory
returns-else-create-clause-memory c none = c.ask.ensures.memory (rw (c.if-create.false) at none)
