use Rattle.std.proofs.Common.{rules}
use Rattle.nizwarf_tree.proofs.Histories.{is_told}
use Rattle.nizwarf_tree.proofs.nizwarf_server_set_time_at.Goals as goal

pub returns-clause-history : goal.returns-clause-history
returns-clause-history c =
    let told =
    is_told c.history_goes_on.ensures.changed c.in-Some.instance.value.server c.args.seconds
    c.args.nanoseconds in
    search rules
