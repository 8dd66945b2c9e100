use Rattle.std.proofs.Common.{length, ap, ◌∙◌}
use Rattle.std.proofs.lemmas.List.{length-map}
use Rattle.laws_turns.specs.Listings.{node_of_line}
use Rattle.laws_turns.proofs.uses.listings.a_node_for_each_line.Goals as goal

pub returns : goal.returns
returns c = λ ctx parent size space events body result h.
    ap length (c.nodes_are_found.ensures.listed ctx parent size space events body result h)
    ∙ length-map h.lines node_of_line
