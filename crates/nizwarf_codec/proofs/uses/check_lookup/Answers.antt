use Rattle.std.proofs.Common.{refl, rules}
use Rattle.nizwarf_codec.proofs.Lookup.{are_limits}
use Rattle.nizwarf_codec.proofs.LookupChecked.{looked_at}
use Rattle.nizwarf_codec.proofs.uses.check_lookup.Goals as goal

pub returns-clause-code : goal.returns-clause-code
returns-clause-code c =
    let l = looked_at _ _ _ _ c.requires (c.nizwarf_check_at.ensures.promise are_limits refl) in
    search rules

pub returns-clause-call : goal.returns-clause-call
returns-clause-call c =
    let l = looked_at _ _ _ _ c.requires (c.nizwarf_check_at.ensures.promise are_limits refl) in
    search rules
