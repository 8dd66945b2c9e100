use Rattle.std.proofs.Common.{[], Some}
use Rattle.vfs_files.specs.Calls.{Access, Init, Failed, Options}
use Rattle.laws_turns.proofs.uses.turns.widths_of_answers.Goals as goal

pub returns-clause-fault : goal.returns-clause-fault
returns-clause-fault c = λ limits options after number ctx inode mask t turn e.
    let in_range = c.answers_are_of_their_kind.ensures limits options after (Access ctx inode mask) (Failed (Some number)) [] t turn e in
    (in_range.0, in_range.1)

pub returns-clause-wanted : goal.returns-clause-wanted
returns-clause-wanted c = λ limits options after offered want t turn e.
    c.answers_are_of_their_kind.ensures limits options after (Init offered) (Options want) [] t turn e
