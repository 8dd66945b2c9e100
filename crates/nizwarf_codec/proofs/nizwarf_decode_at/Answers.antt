use Rattle.std.proofs.Common.{rules}
use Rattle.vfs_segments.specs.Segments.{flat_bytes, segments_of}
use Rattle.nizwarf_codec.specs.Clauses.{what_in}
use Rattle.nizwarf_codec.specs.Session.{limits_of, options_of}
use Rattle.nizwarf_codec.proofs.Asking.{ready_for, stays_for}
use Rattle.nizwarf_codec.proofs.OfferedAsks.{no_row, promised}
use Rattle.nizwarf_codec.proofs.nizwarf_decode_at.Goals as goal

pub returns-clause-wrong : goal.returns-clause-wrong
returns-clause-wrong c wrong =
    let w = c.ask_in_slot.ensures.wrong wrong in
    (search (rules, w), w.1, w.2, w.3)

pub returns-clause-plain : goal.returns-clause-plain
returns-clause-plain c are is =
    let session = c.args.session.now in
    let h = promised (limits_of session) (options_of session) (flat_bytes (segments_of c.args.request.now)) c.args.room
    (what_in session c.args.offers c.args.request.now) _ _ _ _ _ is (c.ask_in_slot.ensures.asked are) in
    search (rules, h)

pub returns-clause-promise : goal.returns-clause-promise
returns-clause-promise c are none =
    returns-clause-plain c are
    (no_row c.args.offers (limits_of c.args.session.now) (flat_bytes (segments_of c.args.request.now)) none)

pub returns-clause-ready : goal.returns-clause-ready
returns-clause-ready c code less within asks =
    ready_for _ less asks c.ask_in_slot.new.handle.value within (c.ask_in_slot.ensures.kept (search (rules, code)))

pub returns-clause-stays : goal.returns-clause-stays
returns-clause-stays c less asks holds =
    stays_for less asks c.args.handle.now.value c.ask_in_slot.new.handle.value c.ask_in_slot.ensures.some
    c.ask_in_slot.ensures.keeps holds

pub returns-clause-kept : goal.returns-clause-kept
returns-clause-kept c code = c.ask_in_slot.ensures.kept (search (rules, code))
