use Rattle.std.proofs.Common.{◌<◌, ◌∙◌, ◌++◌, ℕ, List, [], length, take, ap, arith}
use Rattle.vfs_wire.specs.Fields.{little}
use Rattle.vfs_grammar.specs.Reply.{body_reply}
use Rattle.vfs_grammar.proofs.Rooms.{put_outcome-full, put_room-full, length-body_reply}
use Rattle.test_uses.proofs.messages.say_done_in_ten_bytes.Goals as goal

pub returns-clause-outcome : goal.returns-clause-outcome
returns-clause-outcome c =
    let replied = c.reply_ok.ensures.replied (omega arith) in
    let short : length c.args.w.now.left < length (body_reply [] 9) = omega (arith, c.requires, length-body_reply [] 9) in
    replied.says.says ∙ put_outcome-full (body_reply [] 9) c.args.w.now.left short

pub returns-clause-bytes : goal.returns-clause-bytes
unfolding little
returns-clause-bytes c =
    let replied = c.reply_ok.ensures.replied (omega arith) in
    let short : length c.args.w.now.left < length (body_reply [] 9) = omega (arith, c.requires, length-body_reply [] 9) in
    replied.leaves.kept
    ∙ ap (λ (l : List ℕ). c.args.w.now.passed ++ l)
    (replied.says.leaves ∙ put_room-full (body_reply [] 9) c.args.w.now.left short ∙ ap (λ (n : ℕ). take n (body_reply [] 9)) c.requires)
