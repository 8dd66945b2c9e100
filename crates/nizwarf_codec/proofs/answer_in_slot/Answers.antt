use Rattle.nizwarf_codec.proofs.Leaving.{held_on}
use Rattle.nizwarf_codec.proofs.answer_in_slot.Goals as goal

pub returns-clause-keeps : goal.returns-clause-keeps
returns-clause-keeps c n holds =
    held_on n c.args.handle.now.value c.put.new.self.value c.in-Some-memory_of.memory.value c.answer_call-code.new.memory
    c.in-Some-memory_of.ensures.kept c.put.ensures
    (λ has. c.answer_call-code.ensures.keeps n (rw c.deref_mut.ensures.value has)) holds
