use Rattle.std.proofs.Common.{sym}
use Rattle.vfs_wire.specs.Fields.{number}
use Rattle.test_uses.proofs.messages.group_of_a_body.Goals as goal

pub returns : goal.returns
unfolding number
returns c = sym c.parse_sup_groups.ensures
