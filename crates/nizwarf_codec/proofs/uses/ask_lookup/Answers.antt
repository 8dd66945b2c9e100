use Rattle.std.proofs.Common.{rules}
use Rattle.nizwarf_codec.proofs.Lookup.{are_limits, looked_up, usual_session}
use Rattle.nizwarf_codec.proofs.OfferedAsks.{plain_asked}
use Rattle.nizwarf_codec.specs.Shown.{shown_in}
use Rattle.nizwarf_codec.proofs.uses.ask_lookup.Goals as goal

pub returns-clause-code : goal.returns-clause-code
returns-clause-code c =
    let l = looked_up _ _ _ _ _ _ c.requires (plain_asked usual_session c.args.lookup.now 4096 c.nizwarf_decode_at.result c.nizwarf_decode_at.new.call c.args.told.now c.nizwarf_decode_at.new.told
    (shown_in c.nizwarf_decode_at.new.handle.value) c.nizwarf_decode_at.ensures.asked are_limits) in
    search rules

pub returns-clause-call : goal.returns-clause-call
returns-clause-call c =
    let l = looked_up _ _ _ _ _ _ c.requires (plain_asked usual_session c.args.lookup.now 4096 c.nizwarf_decode_at.result c.nizwarf_decode_at.new.call c.args.told.now c.nizwarf_decode_at.new.told
    (shown_in c.nizwarf_decode_at.new.handle.value) c.nizwarf_decode_at.ensures.asked are_limits) in
    search rules

pub returns-clause-kept : goal.returns-clause-kept
returns-clause-kept c code = c.nizwarf_decode_at.ensures.kept (search (rules, code))
