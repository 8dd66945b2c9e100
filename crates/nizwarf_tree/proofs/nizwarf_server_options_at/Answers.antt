use Rattle.std.proofs.Common.{rules}
use Rattle.nizwarf_tree.proofs.nizwarf_server_options_at.Goals as goal

pub returns-clause-options : goal.returns-clause-options
returns-clause-options c = search rules
