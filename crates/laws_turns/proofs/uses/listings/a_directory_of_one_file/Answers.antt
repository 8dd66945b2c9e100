use Rattle.std.proofs.Common.{false}
use Rattle.laws_turns.proofs.Lines.{one_file, one_file_goes_on}
use Rattle.laws_turns.proofs.uses.listings.a_directory_of_one_file.Goals as goal

pub returns : goal.returns
returns c = λ ctx parent size room body result h roomy. one_file ctx parent size body result
    (c.directories_are_whole.ensures false ctx parent size room _ body result h roomy one_file_goes_on)
