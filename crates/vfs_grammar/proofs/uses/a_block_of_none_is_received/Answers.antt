use Rattle.std.proofs.Common.{refl}
use Rattle.vfs_wire.specs.Fields.{number}
use Rattle.vfs_grammar.specs.Extensions.{extensions_in}
use Rattle.vfs_grammar.proofs.uses.a_block_of_none_is_received.Goals as goal

pub returns : goal.returns
unfolding extensions_in number
returns c = refl
