use Rattle.laws_turns.proofs.Lines.{first_lookup_fails}
use Rattle.laws_turns.proofs.uses.listings.a_first_lookup_that_fails.Goals as goal

pub returns : goal.returns
returns c = first_lookup_fails
