use Rattle.vfs_flags.specs.Numbers.{opcode_of}
use Rattle.vfs_wire.specs.Fields.{little, number}
use Rattle.codec_decode.proofs.uses.check_interrupt_of_seven.Goals as goal

pub returns-clause-result : goal.returns-clause-result
unfolding little number opcode_of
returns-clause-result c = (rw (c.requires) at c.check.ensures).0

pub returns-clause-no_call : goal.returns-clause-no_call
unfolding little number opcode_of
returns-clause-no_call c = (rw (c.requires) at c.check.ensures).1
