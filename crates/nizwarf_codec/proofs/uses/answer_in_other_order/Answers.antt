use Rattle.std.proofs.Common.{◌≡◌, rules}
use Rattle.c_rooms.specs.Codes.{is_asked}
use Rattle.nizwarf_codec.proofs.OfferedAsks.{plain_memory}
use Rattle.nizwarf_codec.proofs.uses.answer_in_other_order.Goals as goal

pub returns-clause-first : goal.returns-clause-first
returns-clause-first c code =
    let asked : c.nizwarf_decode_at-asked.result ≡ is_asked = search rules in
    c.nizwarf_encode_at-earlier.ensures.memory
    (c.nizwarf_encode_at-answered.ensures.keeps _
    (c.nizwarf_decode_at-asked-2.ensures.keeps _ (c.nizwarf_decode_at-asked.ensures.kept asked)))
    (search (rules, code))

pub returns-clause-second : goal.returns-clause-second
returns-clause-second c code =
    let asked : c.nizwarf_decode_at-asked-2.result ≡ is_asked = search rules in
    c.nizwarf_encode_at-answered.ensures.memory (c.nizwarf_decode_at-asked-2.ensures.kept asked) (search (rules, code))

pub returns-clause-again : goal.returns-clause-again
returns-clause-again c within few none code =
    let asked : c.nizwarf_decode_at-asked.result ≡ is_asked = search rules in
    plain_memory c.args.session.now c.args.second.now c.args.room c.nizwarf_decode_at-again.result _ c.nizwarf_decode_at-again.ensures.memory
    (c.nizwarf_encode_at-earlier.ensures.stays _ _
    (c.nizwarf_encode_at-answered.ensures.stays _ _
    (c.nizwarf_decode_at-asked-2.ensures.stays _ _ (c.nizwarf_decode_at-asked.ensures.ready asked _ within _))))
    few none (search (rules, code))

pub returns-then-asked-ne-ASKED-2-clause-asked : goal.returns-then-asked-ne-ASKED-2-clause-asked
returns-then-asked-ne-ASKED-2-clause-asked c within few none code =
    let asked : c.nizwarf_decode_at-asked.result ≡ is_asked = search rules in
    plain_memory c.args.session.now c.args.second.now c.args.room c.nizwarf_decode_at-asked-2.result _ c.nizwarf_decode_at-asked-2.ensures.memory (c.nizwarf_decode_at-asked.ensures.ready asked _ within _) few none (search (rules, code))
