use Rattle.std.proofs.Common.{rules}
use Rattle.nizwarf_tree.proofs.nizwarf_server_free_at.Goals as goal

pub returns-clause-code : goal.returns-clause-code
returns-clause-code c = search rules
