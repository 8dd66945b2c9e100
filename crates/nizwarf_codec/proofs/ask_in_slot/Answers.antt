use Rattle.std.proofs.Common.{◌≡◌, rules}
use Rattle.c_rooms.specs.Codes.{is_asked, no_memory}
use Rattle.vfs_segments.specs.Segments.{flat_bytes, segments_of}
use Rattle.nizwarf_codec.specs.Clauses.{what_in}
use Rattle.nizwarf_codec.specs.Session.{limits_of, options_of}
use Rattle.nizwarf_codec.proofs.Asking.{held_for, holds_at_once, told_at_once, told_or_not}
use Rattle.nizwarf_codec.proofs.OfferedAsks.{of_ordinary, ordinary_held}
use Rattle.nizwarf_codec.proofs.ask_in_slot.Goals as goal

pub returns-then-ask_in_two-clause-asked : goal.returns-then-ask_in_two-clause-asked
returns-then-ask_in_two-clause-asked c = λ limits.
    of_ordinary _ _ _ _ _ _ _ _ _ _ (c.ask_in_two.ensures.ordinary c.if-ask_in_two.true)
    (told_or_not _ _ _ _ c.tell_in_slot.result _ c.ask_in_two.new.call _ _ _ _ (search rules)
    (told_at_once _ _ _ _ _ c.args.told.now (c.ask_in_two.ensures.told c.if-ask_in_two.true))
    c.tell_in_slot.ensures.nothing c.tell_in_slot.ensures.told)

pub returns-then-ask_in_two-clause-kept : goal.returns-then-ask_in_two-clause-kept
returns-then-ask_in_two-clause-kept c code =
    held_for c.tell_in_slot.result c.ask_in_two.new.call c.tell_in_slot.new.call _ c.tell_in_slot.ensures.told
    (search (rules, code))

pub returns-then-ask_in_two-clause-memory : goal.returns-then-ask_in_two-clause-memory
returns-then-ask_in_two-clause-memory c holds few none code =
    let session = c.args.incoming.now.session.now in
    let q = flat_bytes (segments_of c.args.incoming.now.request.now) in
    let plain = ordinary_held (limits_of session) (options_of session) q c.args.incoming.now.room
    (what_in session c.args.incoming.now.offers c.args.incoming.now.request.now) c.args.handle.now.value
    (c.ask_in_two.ensures.ordinary c.if-ask_in_two.true) holds in
    let told : c.tell_in_slot.result ≡ is_asked =
    c.tell_in_slot.ensures.has (holds_at_once (limits_of session) (options_of session) q
    c.args.incoming.now.room c.ask_in_two.new.call c.args.handle.now.value
    (c.ask_in_two.ensures.told c.if-ask_in_two.true) plain) in
    let want : c.tell_in_slot.result ≡ no_memory = search (rules, code) in
    cc (told, want)

pub returns-clause-kept : goal.returns-clause-kept
returns-clause-kept c code = c.ask_by_table.ensures.kept (search (rules, code))
