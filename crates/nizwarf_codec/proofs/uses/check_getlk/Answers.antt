use Rattle.std.proofs.Common.{◌≡◌, rules}
use Rattle.vfs_wire.specs.Fields.{number}
use Rattle.c_rooms.specs.Codes.{is_asked}
use Rattle.nizwarf_codec.proofs.Lookup.{are_limits}
use Rattle.nizwarf_codec.proofs.uses.check_getlk.Goals as goal

pub returns-clause-code : goal.returns-clause-code
unfolding number
returns-clause-code c =
    let is : c.nizwarf_check_at.result ≡ is_asked = (rw (c.requires) at (c.nizwarf_check_at.ensures.checked are_limits)).0 in
    search (rules, is)

pub returns-clause-call : goal.returns-clause-call
unfolding number
returns-clause-call c = (rw (c.requires) at (c.nizwarf_check_at.ensures.checked are_limits)).1
