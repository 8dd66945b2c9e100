use Rattle.vfs_grammar.specs.Witnesses.{follows_plainly, follows_as_told}
use Rattle.laws_turns.proofs.turns.turns_are_told_by_witnesses.Goals as goal

pub returns-clause-plainly : goal.returns-clause-plainly
returns-clause-plainly c = λ limits options after t asks f. follows_plainly t limits options asks after f

pub returns-clause-as_told : goal.returns-clause-as_told
returns-clause-as_told c = λ limits options after t asks f. follows_as_told t limits options asks after f
