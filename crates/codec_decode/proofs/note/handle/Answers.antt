use Rattle.codec_decode.proofs.Noting.{asking_notes, handled_room}
use Rattle.codec_decode.proofs.note.handle.Goals as goal

pub returns-clause-same_record : goal.returns-clause-same_record
returns-clause-same_record c =
    (asking_notes _ _ _ _ _ c.args.session.now c.handle_header.new.self c.args.w.now c.handle_header.new.w
    c.handle_header.result c.requires c.handle_header.ensures.0).same_record

pub returns-clause-noted : goal.returns-clause-noted
returns-clause-noted c =
    (asking_notes _ _ _ _ _ c.args.session.now c.handle_header.new.self c.args.w.now c.handle_header.new.w
    c.handle_header.result c.requires c.handle_header.ensures.0).is_noted

pub returns-clause-room : goal.returns-clause-room
returns-clause-room c =
    handled_room _ _ _ _ _ c.args.session.now c.handle_header.new.self c.args.w.now c.handle_header.new.w
    c.handle_header.result c.handle_header.ensures.0
