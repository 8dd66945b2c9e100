use Rattle.std.proofs.Common.{rules}
use Rattle.example_tree.proofs.client.said.Goals as goal

pub returns-clause-record : goal.returns-clause-record
returns-clause-record c = search rules
