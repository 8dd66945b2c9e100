use Rattle.std.proofs.Common.{rules}
use Rattle.nizwarf_codec.proofs.Leaving.{held_on}
use Rattle.nizwarf_codec.proofs.ask_by_reader.Goals as goal

pub returns-clause-kept : goal.returns-clause-kept
returns-clause-kept c code =
    record {
      memory = c.ask_segments-code.new.memory;
      is = c.put.ensures;
      has = c.ask_segments-code.ensures.kept (search (rules, code));
    }

pub returns-clause-keeps : goal.returns-clause-keeps
returns-clause-keeps c n holds =
    held_on n c.args.handle.now.value c.put.new.self.value c.in-Some-memory_of.memory.value c.ask_segments-code.new.memory
    c.in-Some-memory_of.ensures.kept c.put.ensures
    (λ has. c.ask_segments-code.ensures.keeps n (rw c.deref_mut.ensures.value has)) holds
