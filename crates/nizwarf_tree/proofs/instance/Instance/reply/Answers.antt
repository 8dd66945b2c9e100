use Rattle.std.proofs.Common.{◌∙◌, ap, inl, length, rules, sym}
use Rattle.vfs_server.specs.Step.{ServerState}
use Rattle.nizwarf_tree.specs.Files.{State}
use Rattle.nizwarf_tree.specs.Offered.{row_limits}
use Rattle.nizwarf_tree.proofs.Keeping.{back, left_within}
use Rattle.nizwarf_tree.proofs.RowTurns.{answered_row, same_lengths, same_whole}
use Rattle.nizwarf_tree.proofs.instance.Instance.reply.Goals as goal

pub keep_room-requires : goal.keep_room-requires
keep_room-requires c =
    ap length (c.into_segments.ensures.lengths
    ∙ same_lengths _ _ _ _ _ _ _ c.requires.text (c.in-Some.ensures.left ∙ sym c.requires.room)
    c.answer_offered-came.ensures.by_kind)
    ∙ c.in-Some.ensures.one

pub returns-in-Some-came-clause-served : goal.returns-in-Some-came-clause-served
returns-in-Some-came-clause-served c = λ request asks says.
    inl (answered_row _ c.lend_room.new.self.server _ request _ _ _ _ _ _ _ _ _ c.row_limits-limits.result
    c.in-Some.writer c.answer_offered-came.new.w c.in-Some-came.answered
    c.lend_room.ensures.server (c.end.ensures.server ∙ c.keep_room.ensures.server)
    (c.row_limits-limits.ensures.limits
    ∙ ap (λ (s : ServerState State). row_limits s.limits) c.lend_room.ensures.server) asks c.requires.text says c.in-Some.ensures.left c.into_segments.ensures.bytes
    (c.end.ensures.room ∙ c.keep_room.ensures.room) c.end.ensures.number c.end.ensures.len c.end.ensures.shown
    c.asked_and_answered_is_one_offered_turn.ensures c.in-Some-came.ensures.by_kind c.in-Some-came.ensures.calls
    c.in-Some-came.ensures.listings)

pub returns-in-Some-came-clause-keeps : goal.returns-in-Some-came-clause-keeps
returns-in-Some-came-clause-keeps c n keeps =
    let longer = c.lend_room.ensures.longer n keeps in
    c.end.ensures.keeps n (back n c.keep_room.new.self c.in-Some.writer c.answer_offered-came.new.w _
    (same_whole _ _ _ _ _ _ _ c.requires.text (c.in-Some.ensures.left ∙ sym c.requires.room) c.answer_offered-came.ensures.by_kind)
    c.into_segments.ensures.bytes (search (rules, longer)) c.keep_room.ensures.holds)

pub returns-in-Some-came-clause-kept : goal.returns-in-Some-came-clause-kept
returns-in-Some-came-clause-kept c has short =
    c.end.ensures.keeps _ (back c.args.total c.keep_room.new.self c.in-Some.writer c.answer_offered-came.new.w _
    (same_whole _ _ _ _ _ _ _ c.requires.text (c.in-Some.ensures.left ∙ sym c.requires.room) c.answer_offered-came.ensures.by_kind)
    c.into_segments.ensures.bytes (left_within c.args.total c.in-Some.writer c.in-Some.ensures.left) c.keep_room.ensures.holds)

pub returns-in-None-clause-keeps : goal.returns-in-None-clause-keeps
returns-in-None-clause-keeps c n keeps =
    let longer = c.lend_room.ensures.longer n keeps in
    back n c.keep_room.new.self c.in-Some.writer c.answer_offered-came.new.w _
    (same_whole _ _ _ _ _ _ _ c.requires.text (c.in-Some.ensures.left ∙ sym c.requires.room) c.answer_offered-came.ensures.by_kind)
    c.into_segments.ensures.bytes (search (rules, longer)) c.keep_room.ensures.holds
