use Rattle.std.proofs.Common.{sym, subst}
use Rattle.nizwarf_codec.specs.Rooms.{HasRoomFor}
use Rattle.nizwarf_codec.specs.declared.memory.Memory.{Memory}
use Rattle.nizwarf_codec.proofs.Leaving.{held_on, one_memory}
use Rattle.nizwarf_codec.proofs.show_nothing.Goals as goal

pub returns-in-Some-clause-keeps : goal.returns-in-Some-clause-keeps
returns-in-Some-clause-keeps c n holds =
    held_on n c.args.handle.now.value c.put.new.self.value c.in-Some.memory.value _
    (one_memory c.args.handle.now.value c.in-Some.memory.value c.in-Some.ensures.taken) c.put.ensures
    (λ has. subst (λ (m : Memory). HasRoomFor n m.answers) (sym c.deref_mut.ensures.value) has) holds
