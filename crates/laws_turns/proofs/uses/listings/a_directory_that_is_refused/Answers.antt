use Rattle.laws_turns.proofs.Lines.{refused_is}
use Rattle.laws_turns.proofs.uses.listings.a_directory_that_is_refused.Goals as goal

pub returns : goal.returns
returns c = refused_is
