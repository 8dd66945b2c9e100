use Rattle.std.proofs.Common.{refl, rules}
use Rattle.nizwarf_codec.proofs.Ending.{interrupt_checked}
use Rattle.nizwarf_codec.proofs.Lookup.{are_limits}
use Rattle.nizwarf_codec.proofs.uses.check_interrupt.Goals as goal

pub returns-clause-code : goal.returns-clause-code
returns-clause-code c =
    let l = interrupt_checked _ _ _ _ c.requires (c.nizwarf_check_at.ensures.promise are_limits refl) in
    search rules

pub returns-clause-means : goal.returns-clause-means
returns-clause-means c =
    (interrupt_checked _ _ _ _ c.requires (c.nizwarf_check_at.ensures.promise are_limits refl)).1

pub returns-clause-no_call : goal.returns-clause-no_call
returns-clause-no_call c =
    (interrupt_checked _ _ _ _ c.requires (c.nizwarf_check_at.ensures.promise are_limits refl)).2
