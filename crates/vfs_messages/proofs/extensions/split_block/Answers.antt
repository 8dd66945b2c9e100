use Rattle.std.proofs.Common.{arith}
use Rattle.std.proofs.lemmas.Grind.{common_steps}
use Rattle.vfs_messages.proofs.extensions.split_block.Goals as goal

pub returns : goal.returns
returns c = grind (arith, common_steps) steps 200000
