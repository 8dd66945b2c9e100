use Rattle.std.proofs.Common.{Option, subst}
use Rattle.vfs_flags.specs.declared.opcode.Opcode.{Opcode}
use Rattle.vfs_segments.specs.Lengths.{lengths_from}
use Rattle.vfs_grammar.specs.Memory.{header_of}
use Rattle.vfs_server.specs.MemoryByPieces.{MayWantAfter}
use Rattle.test_uses.proofs.clauses.server.memory_is_for_opcodes.Goals as goal

pub returns : goal.returns
returns c = λ limits options room_len u wants none.
    subst (λ (opcode : Option Opcode). MayWantAfter limits options room_len opcode (header_of u.left) (lengths_from 40 u.pieces))
    none wants
