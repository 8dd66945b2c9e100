use Rattle.laws_turns.proofs.Takings.{takings_bounded}
use Rattle.laws_turns.proofs.listings.takings_are_bounded.Goals as goal

pub returns : goal.returns
returns c = takings_bounded
