use Rattle.std.proofs.Common.{rules, sym, subst}
use Rattle.nizwarf_codec.specs.Rooms.{HasRoomFor}
use Rattle.nizwarf_codec.specs.declared.memory.Memory.{Memory}
use Rattle.nizwarf_codec.proofs.Leaving.{held_on, told_on}
use Rattle.nizwarf_codec.proofs.tell_in_slot.Goals as goal

pub returns-clause-told : goal.returns-clause-told
returns-clause-told c =
    told_on c.tell_call-code.result _ _ _ c.tell_call-code.new.memory c.put.new.self.value (search rules) c.put.ensures
    c.tell_call-code.ensures.told

pub returns-clause-keeps : goal.returns-clause-keeps
returns-clause-keeps c n holds =
    held_on n c.args.handle.now.value c.put.new.self.value c.in-Some.memory.value c.tell_call-code.new.memory
    c.in-Some.ensures.kept c.put.ensures
    (λ has. c.tell_call-code.ensures.keeps n
    (subst (λ (m : Memory). HasRoomFor n m.answers) (sym c.deref_mut-2.ensures.value)
    (subst (λ (m : Memory). HasRoomFor n m.answers) (sym c.deref_mut.ensures.value) has))) holds
