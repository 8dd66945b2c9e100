use Rattle.std.proofs.Common.{◌≡◌, ◌≢◌, refl, rules, subst}
use Rattle.std.specs.Prelude.{ℤ}
use Rattle.c_rooms.specs.Codes.{is_asked, no_memory, not_asked}
use Rattle.vfs_segments.specs.Segments.{flat_bytes, segments_of}
use Rattle.codec_encode.specs.Fitting.{answer_offered}
use Rattle.nizwarf_codec.specs.Session.{limits_of, options_of}
use Rattle.nizwarf_codec.specs.Shown.{shown_in}
use Rattle.nizwarf_codec.specs.Uses.{IsOneTurn}
use Rattle.nizwarf_codec.specs.declared.data.ToldData.{ToldData}
use Rattle.nizwarf_codec.proofs.Concluding.{concluded}
use Rattle.nizwarf_codec.proofs.OfferedAsks.{plain_asked}
use Rattle.nizwarf_codec.proofs.OneTurn.{one_turn, told_as_before}
use Rattle.nizwarf_codec.proofs.uses.ask_and_answer.Goals as goal

pub returns-clause-memory : goal.returns-clause-memory
returns-clause-memory c code =
    let asked : c.nizwarf_decode_at-asked.result ≡ is_asked = search rules in
    c.nizwarf_encode_at.ensures.memory (c.nizwarf_decode_at-asked.ensures.kept asked) (search (rules, code))

pub returns-clause-turn : goal.returns-clause-turn
returns-clause-turn c code is came =
    let asked : c.nizwarf_decode_at-asked.result ≡ is_asked = search rules in
    let same : c.nizwarf_encode_at.result ≡ code = search (rules, is) in
    let has : c.nizwarf_encode_at.result ≢ no_memory =
    c.nizwarf_encode_at.ensures.memory (c.nizwarf_decode_at-asked.ensures.kept asked) in
    let other : c.nizwarf_encode_at.result ≢ not_asked = λ e. came (search (rules, e)) in
    let asks = plain_asked c.args.session.now c.args.request.now c.args.room c.nizwarf_decode_at-asked.result c.nizwarf_decode_at-asked.new.call c.args.told.now c.nizwarf_decode_at-asked.new.told
    (shown_in c.nizwarf_decode_at-asked.new.handle.value) c.nizwarf_decode_at-asked.ensures.asked c.requires in
    let before : c.nizwarf_decode_at-asked.new.told ≡ c.args.told.now = told_as_before _ _ _ _ _ _ _ _ _ asks asked in
    subst (λ (t : ToldData). IsOneTurn (limits_of c.args.session.now) (options_of c.args.session.now)
    (flat_bytes (segments_of c.args.request.now)) c.args.room c.nizwarf_decode_at-asked.new.call
    (answer_offered c.nizwarf_decode_at-asked.new.call c.args.answer.now c.args.text.now)
    c.args.text.now c.args.items.now code t c.nizwarf_encode_at.new.told
    (shown_in c.nizwarf_encode_at.new.handle.value)) before
    (subst (λ (n : ℤ). IsOneTurn (limits_of c.args.session.now) (options_of c.args.session.now)
    (flat_bytes (segments_of c.args.request.now)) c.args.room c.nizwarf_decode_at-asked.new.call
    (answer_offered c.nizwarf_decode_at-asked.new.call c.args.answer.now c.args.text.now)
    c.args.text.now c.args.items.now n c.nizwarf_decode_at-asked.new.told c.nizwarf_encode_at.new.told
    (shown_in c.nizwarf_encode_at.new.handle.value)) same
    (one_turn c.asked_and_answered_is_one_turn.ensures _ _ _ _ _ _ _ _ _ _ _ _ _ _ _ _
    asks asked (c.nizwarf_encode_at.ensures.answered c.requires) has other))

pub returns-clause-promise : goal.returns-clause-promise
returns-clause-promise c code is came =
    let asked : c.nizwarf_decode_at-asked.result ≡ is_asked = search rules in
    let same : c.nizwarf_encode_at.result ≡ code = search (rules, is) in
    let has : c.nizwarf_encode_at.result ≢ no_memory =
    c.nizwarf_encode_at.ensures.memory (c.nizwarf_decode_at-asked.ensures.kept asked) in
    let other : c.nizwarf_encode_at.result ≢ not_asked = λ e. came (search (rules, e)) in
    concluded _ _ _ _ _ _ code _ _ _ _ _ _ _ _ _ asked same has other
    (c.nizwarf_decode_at-asked.ensures.promise c.requires refl) (c.nizwarf_encode_at.ensures.fitted c.requires)
