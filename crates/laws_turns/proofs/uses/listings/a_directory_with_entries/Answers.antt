use Rattle.std.proofs.Common.{true}
use Rattle.laws_turns.proofs.Lines.{dot_and_a, dot_and_file, dot_and_file_go_on}
use Rattle.laws_turns.proofs.uses.listings.a_directory_with_entries.Goals as goal

pub returns : goal.returns
returns c = λ ctx parent size room entry body result h roomy. dot_and_file ctx parent size entry body result
    (c.directories_are_whole.ensures true ctx parent size room (dot_and_a ctx parent entry) body result h roomy
    (dot_and_file_go_on ctx parent entry))
