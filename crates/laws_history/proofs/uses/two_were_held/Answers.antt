use Rattle.std.proofs.Common.{◌≤◌, ◌+◌, List, length, subst, arith}
use Rattle.std.proofs.Math.Seq.{take-length}
use Rattle.vfs_files.specs.Runs.{Event}
use Rattle.vfs_grammar.specs.Books.{answered, sent}
use Rattle.vfs_grammar.specs.Turn.{events_in}
use Rattle.laws_history.specs.History.{turns_in}
use Rattle.laws_history.proofs.uses.two_were_held.Goals as goal

pub returns : goal.returns
returns g c = λ old new moments h within.
    let events : List Event = events_in (turns_in moments) in
    subst (λ (all : List Event). sent 5 all ≤ 2 + answered 5 all) (take-length events)
    (c.held_counts_never_fall_below_zero.ensures old new moments 5 2 h (omega arith) within (length events))
