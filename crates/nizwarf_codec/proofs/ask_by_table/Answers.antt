use Rattle.std.proofs.Common.{◌≡◌, rules}
use Rattle.vfs_segments.specs.Segments.{segments_of, flat_bytes}
use Rattle.codec_decode.specs.Further.{what_of}
use Rattle.nizwarf_codec.specs.Asking.{unread_in}
use Rattle.nizwarf_codec.specs.Session.{limits_of, options_of}
use Rattle.c_rooms.specs.Codes.{is_asked, no_memory}
use Rattle.nizwarf_codec.proofs.Asking.{held_for}
use Rattle.nizwarf_codec.proofs.OfferedAsks.{no_code, ordinary, ordinary_holds, ordinary_wants, recode, row_holds, row_told, short, unnamed, unnamed_holds, unnamed_wants}
use Rattle.nizwarf_codec.proofs.ask_by_table.Goals as goal

pub returns-in-Ordinary-clause-asked : goal.returns-in-Ordinary-clause-asked
returns-in-Ordinary-clause-asked c = λ are.
    let q = flat_bytes (segments_of c.args.incoming.now.request.now) in
    let limits = limits_of c.args.incoming.now.session.now in
    let options = options_of c.args.incoming.now.session.now in
    let told = rw (c.in-Some.ensures.0, c.options-options.ensures) at c.what.ensures in
    recode limits options q c.args.incoming.now.room (what_of c.args.incoming.now.offers limits q) _ _ _ _ _ _ (search rules)
    (ordinary limits options q c.args.incoming.now.room c.args.call.now c.what.new.call c.what.result c.ask_by_reader.result
    c.ask_by_reader.new.call c.args.told.now c.ask_by_reader.new.told _ (what_of c.args.incoming.now.offers limits q) c.in-Ordinary.is
    told (c.ask_by_reader.ensures.asked are))

pub returns-in-Ordinary-clause-memory : goal.returns-in-Ordinary-clause-memory
returns-in-Ordinary-clause-memory c = λ holds few none.
    let q = flat_bytes (segments_of c.args.incoming.now.request.now) in
    let limits = limits_of c.args.incoming.now.session.now in
    let options = options_of c.args.incoming.now.session.now in
    let told = rw (c.in-Some.ensures.0, c.options-options.ensures) at c.what.ensures in
    let what = what_of c.args.incoming.now.offers limits q in
    no_code _ _ _ (search rules)
    (c.ask_by_reader.ensures.memory
    (ordinary_holds limits options q c.args.incoming.now.room c.args.call.now c.what.new.call c.what.result c.args.handle.now.value
    what c.in-Ordinary.is told holds) few
    (ordinary_wants limits options q c.args.incoming.now.room c.args.call.now c.what.new.call c.what.result
    (unread_in (segments_of c.args.incoming.now.request.now)) what c.in-Ordinary.is told none))

pub returns-in-Short-clause-asked : goal.returns-in-Short-clause-asked
returns-in-Short-clause-asked c = λ are.
    let q = flat_bytes (segments_of c.args.incoming.now.request.now) in
    let limits = limits_of c.args.incoming.now.session.now in
    let options = options_of c.args.incoming.now.session.now in
    let told = rw (c.in-Some.ensures.0, c.options-options.ensures) at c.what.ensures in
    recode limits options q c.args.incoming.now.room (what_of c.args.incoming.now.offers limits q) _ _ _ _ _ _ (search rules)
    (short limits options q c.args.incoming.now.room c.args.call.now c.what.new.call c.what.result c.refuse.result c.refuse.new.call
    c.args.told.now c.refuse.new.told _ (what_of c.args.incoming.now.offers limits q) c.in-Short.is told c.refuse.ensures.code
    c.refuse.ensures.call c.refuse.ensures.told c.refuse.ensures.shown)

pub returns-in-Row-clause-asked : goal.returns-in-Row-clause-asked
returns-in-Row-clause-asked c = λ are.
    let q = flat_bytes (segments_of c.args.incoming.now.request.now) in
    let limits = limits_of c.args.incoming.now.session.now in
    let options = options_of c.args.incoming.now.session.now in
    let told = rw (c.in-Some.ensures.0, c.options-options.ensures) at c.what.ensures in
    recode limits options q c.args.incoming.now.room (what_of c.args.incoming.now.offers limits q) _ _ _ _ _ _ (search rules)
    (row_told limits options q c.args.incoming.now.room c.args.call.now c.what.new.call c.what.result c.args.told.now _
    c.tell_in_slot.result c.tell_in_slot.new.call _ (what_of c.args.incoming.now.offers limits q) c.in-Row.is told
    c.tell_in_slot.ensures.nothing c.tell_in_slot.ensures.told)

pub returns-in-Row-clause-memory : goal.returns-in-Row-clause-memory
returns-in-Row-clause-memory c holds few none code =
    let q = flat_bytes (segments_of c.args.incoming.now.request.now) in
    let limits = limits_of c.args.incoming.now.session.now in
    let options = options_of c.args.incoming.now.session.now in
    let told = rw (c.in-Some.ensures.0, c.options-options.ensures) at c.what.ensures in
    let has = row_holds limits options q c.args.incoming.now.room c.args.call.now c.what.new.call c.what.result c.args.handle.now.value
    (what_of c.args.incoming.now.offers limits q) c.in-Row.is told holds in
    let is : c.tell_in_slot.result ≡ is_asked = c.tell_in_slot.ensures.has has in
    let want : c.tell_in_slot.result ≡ no_memory = search (rules, code) in
    cc (is, want)

pub returns-in-Row-clause-kept : goal.returns-in-Row-clause-kept
returns-in-Row-clause-kept c code =
    held_for c.tell_in_slot.result c.what.new.call c.tell_in_slot.new.call _ c.tell_in_slot.ensures.told
    (search (rules, code))

pub returns-in-Unnamed-clause-asked : goal.returns-in-Unnamed-clause-asked
returns-in-Unnamed-clause-asked c = λ are.
    let q = flat_bytes (segments_of c.args.incoming.now.request.now) in
    let limits = limits_of c.args.incoming.now.session.now in
    let options = options_of c.args.incoming.now.session.now in
    let told = rw (c.in-Some.ensures.0, c.options-options.ensures) at c.what.ensures in
    let asked = rw (c.in-Some.ensures.0, c.options-options.ensures) at c.ask_unnamed.ensures.asked in
    recode limits options q c.args.incoming.now.room (what_of c.args.incoming.now.offers limits q) _ _ _ _ _ _ (search rules)
    (unnamed limits options q c.args.incoming.now.room c.args.call.now c.what.new.call c.what.result c.ask_unnamed.result
    c.ask_unnamed.new.call c.args.told.now c.ask_unnamed.new.told _ (what_of c.args.incoming.now.offers limits q) c.in-Unnamed.is told
    asked)

pub returns-in-Unnamed-clause-memory : goal.returns-in-Unnamed-clause-memory
returns-in-Unnamed-clause-memory c = λ holds few none.
    let q = flat_bytes (segments_of c.args.incoming.now.request.now) in
    let limits = limits_of c.args.incoming.now.session.now in
    let options = options_of c.args.incoming.now.session.now in
    let told = rw (c.in-Some.ensures.0, c.options-options.ensures) at c.what.ensures in
    let memory = rw (c.in-Some.ensures.0, c.options-options.ensures) at c.ask_unnamed.ensures.memory in
    let what = what_of c.args.incoming.now.offers limits q in
    no_code _ _ _ (search rules)
    (memory
    (unnamed_holds limits options q c.args.incoming.now.room c.args.call.now c.what.new.call c.what.result c.args.handle.now.value
    what c.in-Unnamed.is told holds) few
    (unnamed_wants limits options q c.args.incoming.now.room c.args.call.now c.what.new.call c.what.result
    (unread_in (segments_of c.args.incoming.now.request.now)) what c.in-Unnamed.is told none))

pub returns-in-Ordinary-clause-kept : goal.returns-in-Ordinary-clause-kept
returns-in-Ordinary-clause-kept c code = c.ask_by_reader.ensures.kept (search (rules, code))

pub returns-in-Unnamed-clause-kept : goal.returns-in-Unnamed-clause-kept
returns-in-Unnamed-clause-kept c code = c.ask_unnamed.ensures.kept (search (rules, code))
