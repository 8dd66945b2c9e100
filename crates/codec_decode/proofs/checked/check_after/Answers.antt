use Rattle.std.proofs.Common.{◌≡◌, ◌==◌, false, length, nat_lt, ap}
use Rattle.vfs_flags.specs.Flags.{fs_options_bits}
use Rattle.vfs_grammar.specs.Limits.{max_len}
use Rattle.codec_decode.proofs.Checking.{ends_short, above_it, judges_after, no_interrupt, not_above}
use Rattle.codec_decode.proofs.checked.check_after.Goals as goal

pub returns-then-is_init : goal.returns-then-is_init
returns-then-is_init c = λ request long first rest.
    let h = c.args.q.header.now in
    let is = c.is_init.ensures.init c.if-is_init.true in
    let below : nat_lt (max_len c.args.terms.limits) h.len ≡ false = not_above (max_len c.args.terms.limits) h.len is.1 in
    let number : (h.opcode == 36) ≡ false = no_interrupt h.opcode is.0 in
    rw (below, is.0, number) (c.check_init.ensures request)

pub returns : goal.returns
returns c = λ request long first rest.
    let h = c.args.q.header.now in
    let options = fs_options_bits c.args.terms.options in
    let limits = c.args.terms.limits in
    let room = c.args.terms.room in
    let short = ends_short limits options room h c.args.q.r.now.left (λ below is.
    above_it (max_len limits) h.len below (c.is_init.ensures.other c.if-is_init.false is)) in
    rw (c.of.ensures) (judges_after _ request options _ room c.empty-nowhere.result c.ask_after.new.w
    (ap (λ w. length w.left) c.empty-nowhere.ensures) c.ask_after.new.call limits c.ask_after.result h
    c.args.q.r.now.left first rest short (c.ask_after.ensures.told request long first rest))
