use Rattle.std.proofs.Common.{◌∙◌}
use Rattle.laws_turns.proofs.uses.books.a_session_of_a_destroy.Goals as goal

pub returns : goal.returns
returns c = λ limits options after t answer are called.
    are.2 ∙ c.destroy_leaves_no_options.ensures limits options are.0 answer t are.1 called
