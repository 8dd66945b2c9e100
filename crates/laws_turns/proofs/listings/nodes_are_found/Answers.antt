use Rattle.laws_turns.proofs.Nodes.{nodes_in-rows, nodes_in-listing}
use Rattle.laws_turns.proofs.listings.nodes_are_found.Goals as goal

pub returns-clause-rows : goal.returns-clause-rows
returns-clause-rows c = nodes_in-rows

pub returns-clause-listed : goal.returns-clause-listed
returns-clause-listed c = λ ctx parent size room events body result h. nodes_in-listing h
