use Rattle.std.proofs.Common.{◌≢◌, ◌∙◌, arith}
use Rattle.vfs_wire.specs.Fields.{little}
use Rattle.vfs_grammar.specs.Samples.{not_served_reply}
use Rattle.vfs_grammar.proofs.Rooms.{put_outcome-fits}
use Rattle.test_uses.proofs.clauses.messages.say_not_served_alone.Goals as goal

pub returns : goal.returns
unfolding little
returns c =
    let free : c.args.w.now.held ≢ 16 = λ is. omega (arith, is, c.requires.none) in
    (c.reply_error.ensures.replied free).says.says ∙ put_outcome-fits not_served_reply _ c.requires.room
