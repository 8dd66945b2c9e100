use Rattle.std.proofs.Common.{rules}
use Rattle.nizwarf_tree.proofs.nizwarf_server_max_buffer_at.Goals as goal

pub returns-clause-largest : goal.returns-clause-largest
returns-clause-largest c = search rules
