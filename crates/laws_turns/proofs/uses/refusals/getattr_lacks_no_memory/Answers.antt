use Rattle.std.proofs.Common.{Option, drop, length, subst}
use Rattle.vfs_flags.specs.declared.opcode.Opcode.{Opcode}
use Rattle.vfs_grammar.specs.Memory.{header_of}
use Rattle.laws_turns.specs.Turns.{WantsMemoryAfter}
use Rattle.laws_turns.proofs.uses.refusals.getattr_lacks_no_memory.Goals as goal

pub returns : goal.returns
returns c = λ limits options after t turn is refused.
    let wants = c.memory_is_wanted_for_whole_tails.ensures limits options after t turn refused in
    absurd (subst (λ (o : Option Opcode). WantsMemoryAfter limits options (length t.room) o (header_of t.request) (drop 40 t.request))
    is wants.form)
