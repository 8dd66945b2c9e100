use Rattle.std.proofs.Common.{◌∙◌, ◌++◌, ℕ, List, ap}
use Rattle.vfs_wire.specs.Fields.{little}
use Rattle.vfs_grammar.specs.Samples.{not_served_reply}
use Rattle.vfs_grammar.proofs.Rooms.{put_outcome-fits, put_room-fits}
use Rattle.test_uses.proofs.messages.say_not_served.Goals as goal

pub returns-clause-outcome : goal.returns-clause-outcome
unfolding little
returns-clause-outcome c = c.reply_failed.ensures.replied.says.says ∙ put_outcome-fits not_served_reply _ c.requires

pub returns-clause-bytes : goal.returns-clause-bytes
unfolding little
returns-clause-bytes c =
    c.reply_failed.ensures.replied.leaves.kept
    ∙ ap (λ (l : List ℕ). c.args.w.now.passed ++ l)
    (c.reply_failed.ensures.replied.says.leaves ∙ put_room-fits not_served_reply _ c.requires)
