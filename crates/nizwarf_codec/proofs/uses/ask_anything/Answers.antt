use Rattle.std.proofs.Common.{◌≡◌, ◌∙◌, refl, rules, sym}
use Rattle.vfs_flags.specs.Numbers.{opcode_of}
use Rattle.vfs_segments.specs.Segments.{segments_of}
use Rattle.codec_decode.specs.Memory.{MayWant}
use Rattle.c_rooms.specs.Codes.{no_memory, too_long}
use Rattle.nizwarf_codec.specs.Asking.{unread_in}
use Rattle.nizwarf_codec.proofs.Ending.{no_call_without, not_served, too_long_together}
use Rattle.nizwarf_codec.proofs.Lookup.{are_limits, limits, usual_session}
use Rattle.nizwarf_codec.proofs.Promised.{ended, only_told}
use Rattle.nizwarf_codec.proofs.OfferedAsks.{plain_asked, plain_memory}
use Rattle.nizwarf_codec.specs.Shown.{shown_in}
use Rattle.nizwarf_codec.proofs.uses.ask_anything.Goals as goal

pub returns-clause-unknown : goal.returns-clause-unknown
returns-clause-unknown c is =
    let l = not_served _ _ _ _ _ _ is (plain_asked usual_session c.args.request.now 4096 c.nizwarf_decode_at.result c.nizwarf_decode_at.new.call c.args.told.now c.nizwarf_decode_at.new.told
    (shown_in c.nizwarf_decode_at.new.handle.value) c.nizwarf_decode_at.ensures.asked are_limits) in
    search rules

pub returns-clause-without_memory : goal.returns-clause-without_memory
returns-clause-without_memory c = λ is.
    let lacks : c.nizwarf_decode_at.result ≡ no_memory = search (rules, is) in
    no_call_without _ _ _ _ _ _ _ _ _ (plain_asked usual_session c.args.request.now 4096 c.nizwarf_decode_at.result c.nizwarf_decode_at.new.call c.args.told.now c.nizwarf_decode_at.new.told
    (shown_in c.nizwarf_decode_at.new.handle.value) c.nizwarf_decode_at.ensures.asked are_limits) lacks

pub returns-clause-memory : goal.returns-clause-memory
unfolding opcode_of
returns-clause-memory c slot few getattr = λ is.
    let none : MayWant limits 0 4096 (unread_in (segments_of c.args.request.now)) → ⊥ =
    rw getattr (λ wanted. wanted) in
    let lacks : c.nizwarf_decode_at.result ≡ no_memory = search (rules, is) in
    plain_memory usual_session c.args.request.now 4096 c.nizwarf_decode_at.result c.args.handle.now.value c.nizwarf_decode_at.ensures.memory slot few none lacks

pub returns-clause-long : goal.returns-clause-long
returns-clause-long c = λ is.
    let long : c.nizwarf_decode_at.result ≡ too_long = search (rules, is) in
    (too_long_together _ _ _ _ _ _ _ _ _ (plain_asked usual_session c.args.request.now 4096 c.nizwarf_decode_at.result c.nizwarf_decode_at.new.call c.args.told.now c.nizwarf_decode_at.new.told
    (shown_in c.nizwarf_decode_at.new.handle.value) c.nizwarf_decode_at.ensures.asked are_limits) long).0

pub returns-clause-no_call : goal.returns-clause-no_call
returns-clause-no_call c = λ is.
    let long : c.nizwarf_decode_at.result ≡ too_long = search (rules, is) in
    (too_long_together _ _ _ _ _ _ _ _ _ (plain_asked usual_session c.args.request.now 4096 c.nizwarf_decode_at.result c.nizwarf_decode_at.new.call c.args.told.now c.nizwarf_decode_at.new.told
    (shown_in c.nizwarf_decode_at.new.handle.value) c.nizwarf_decode_at.ensures.asked are_limits) long).1

pub returns-clause-untold : goal.returns-clause-untold
returns-clause-untold c = λ is.
    let long : c.nizwarf_decode_at.result ≡ too_long = search (rules, is) in
    (too_long_together _ _ _ _ _ _ _ _ _ (plain_asked usual_session c.args.request.now 4096 c.nizwarf_decode_at.result c.nizwarf_decode_at.new.call c.args.told.now c.nizwarf_decode_at.new.told
    (shown_in c.nizwarf_decode_at.new.handle.value) c.nizwarf_decode_at.ensures.asked are_limits) long).2

pub returns-clause-nothing : goal.returns-clause-nothing
returns-clause-nothing c = λ is.
    let long : c.nizwarf_decode_at.result ≡ too_long = search (rules, is) in
    (too_long_together _ _ _ _ _ _ _ _ _ (plain_asked usual_session c.args.request.now 4096 c.nizwarf_decode_at.result c.nizwarf_decode_at.new.call c.args.told.now c.nizwarf_decode_at.new.told
    (shown_in c.nizwarf_decode_at.new.handle.value) c.nizwarf_decode_at.ensures.asked are_limits) long).3

pub returns-clause-call : goal.returns-clause-call
returns-clause-call c some =
    let l = only_told _ _ _ _ _ _ _ _ _ (c.nizwarf_decode_at.ensures.promise are_limits refl) some in
    search rules

pub returns-clause-ended : goal.returns-clause-ended
returns-clause-ended c code is called lacks long =
    let same : c.nizwarf_decode_at.result ≡ code = search (rules, is) in
    rw (sym same) (ended _ _ _ _ _ _ _ _ _ (c.nizwarf_decode_at.ensures.promise are_limits refl)
    (λ e. called (sym same ∙ e)) (λ e. lacks (sym same ∙ e)) (λ e. long (sym same ∙ e)))
