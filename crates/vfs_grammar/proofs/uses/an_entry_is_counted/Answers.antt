use Rattle.std.proofs.Common.{refl, rules}
use Rattle.vfs_wire.specs.Fields.{number}
use Rattle.vfs_grammar.proofs.uses.an_entry_is_counted.Goals as goal

pub returns-clause-delivered : goal.returns-clause-delivered
unfolding number
returns-clause-delivered c = refl

pub returns-clause-create : goal.returns-clause-create
returns-clause-create c = search rules
