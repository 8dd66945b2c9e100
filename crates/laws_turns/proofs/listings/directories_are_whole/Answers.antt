use Rattle.laws_turns.proofs.Takings.{listing_whole}
use Rattle.laws_turns.proofs.listings.directories_are_whole.Goals as goal

pub returns : goal.returns
returns c = listing_whole
