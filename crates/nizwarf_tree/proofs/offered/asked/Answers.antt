use Rattle.std.proofs.Common.{ap}
use Rattle.vfs_segments.specs.Segments.{flat_bytes, segments_of}
use Rattle.codec_calls.specs.declared.call.CallData.{CallData}
use Rattle.nizwarf_tree.specs.Offered.{what_asked}
use Rattle.nizwarf_tree.proofs.Asking.{is_ordinary, is_row, is_short, is_text, is_unnamed}
use Rattle.nizwarf_tree.proofs.offered.asked.Goals as goal

pub returns-clause-ordinary : goal.returns-clause-ordinary
returns-clause-ordinary c = λ is.
    is_ordinary c.args.server.now c.args.room (flat_bytes (segments_of c.args.request.now)) c.tell.result c.args.call.now c.tell.new.call
    (what_asked c.args.server.now.limits (flat_bytes (segments_of c.args.request.now))) c.tell.ensures is

pub returns-clause-short : goal.returns-clause-short
returns-clause-short c = λ is.
    is_short c.args.server.now c.args.room (flat_bytes (segments_of c.args.request.now)) c.tell.result c.args.call.now c.tell.new.call
    (what_asked c.args.server.now.limits (flat_bytes (segments_of c.args.request.now))) c.tell.ensures is

pub returns-clause-unnamed : goal.returns-clause-unnamed
returns-clause-unnamed c = λ is.
    is_unnamed c.args.server.now c.args.room (flat_bytes (segments_of c.args.request.now)) c.tell.result c.args.call.now c.tell.new.call
    (what_asked c.args.server.now.limits (flat_bytes (segments_of c.args.request.now))) c.tell.ensures is

pub returns-clause-row : goal.returns-clause-row
returns-clause-row c = λ is.
    is_row c.args.server.now c.args.room (flat_bytes (segments_of c.args.request.now)) c.tell.result c.args.call.now c.tell.new.call
    c.tell.ensures is

pub returns-clause-text : goal.returns-clause-text
returns-clause-text c = λ is.
    is_text c.args.server.now c.args.room (flat_bytes (segments_of c.args.request.now)) c.tell.result c.args.call.now c.tell.new.call
    (is_row c.args.server.now c.args.room (flat_bytes (segments_of c.args.request.now)) c.tell.result c.args.call.now c.tell.new.call
    c.tell.ensures is)

pub returns-clause-room : goal.returns-clause-room
returns-clause-room c = λ is.
    let asks = is_row c.args.server.now c.args.room (flat_bytes (segments_of c.args.request.now)) c.tell.result c.args.call.now c.tell.new.call
    c.tell.ensures is in
    ap (λ (d : CallData). d.room) asks.told
