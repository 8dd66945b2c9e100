use Rattle.std.proofs.Common.{◌∙◌, inl, refl, rules}
use Rattle.nizwarf_tree.proofs.Keeping.{back, left_within}
use Rattle.nizwarf_tree.proofs.RowTurns.{refused_short}
use Rattle.nizwarf_tree.proofs.instance.Instance.refuse_short.Goals as goal

pub returns-clause-served : goal.returns-clause-served
returns-clause-served c = λ request asks.
    inl (refused_short _ c.lend_room.new.self.server _ request _ _ _ _ _ _ c.in-Some.writer
    c.a_short_request_is_one_offered_turn.ensures c.lend_room.ensures.server
    (c.end.ensures.server ∙ c.keep_room.ensures.server) asks c.in-Some.ensures.left c.into_segments.ensures.bytes
    (c.end.ensures.room ∙ c.keep_room.ensures.room) c.end.ensures.number c.end.ensures.len c.end.ensures.shown)

pub returns-clause-keeps : goal.returns-clause-keeps
returns-clause-keeps c n keeps =
    let longer = c.lend_room.ensures.longer n keeps in
    c.end.ensures.keeps n (back n c.keep_room.new.self c.in-Some.writer c.in-Some.writer _ refl
    c.into_segments.ensures.bytes (search (rules, longer)) c.keep_room.ensures.holds)

pub returns-clause-kept : goal.returns-clause-kept
returns-clause-kept c has short =
    c.end.ensures.keeps _ (back c.args.total c.keep_room.new.self c.in-Some.writer c.in-Some.writer _ refl
    c.into_segments.ensures.bytes (left_within c.args.total c.in-Some.writer c.in-Some.ensures.left) c.keep_room.ensures.holds)
