use Rattle.std.proofs.Common.{false}
use Rattle.laws_turns.proofs.uses.listings.endless_directory_is_left.Goals as goal

pub returns : goal.returns
returns c = λ ctx parent room events body result h. c.takings_are_bounded.ensures false ctx parent
    240 room events body result h
