use Rattle.vfs_flags.specs.Flags.{fs_options_bits}
use Rattle.codec_decode.proofs.Holding.{context_wants_memory, held_by_opcode, refused_with_tail, tells_held}
use Rattle.codec_decode.proofs.Placing.{header_fits}
use Rattle.codec_decode.proofs.asked.ask_with_context.Goals as goal

pub returns-in-Err-read_tail_of-clause-told : goal.returns-in-Err-read_tail_of-clause-told
returns-in-Err-read_tail_of-clause-told c = λ request long first rest.
    let refused = rw (c.in-Ok.ensures.ok) at c.in-Err-read_tail_of.ensures in
    rw (c.finished-in-Err-read_tail_of.ensures, c.requires.none)
    (refused_with_tail _ request (fs_options_bits c.args.terms.options) c.args.terms.room c.args.w.now c.in-Err-read_tail_of.error
    (context_wants_memory c.args.terms.limits (fs_options_bits c.args.terms.options) c.args.terms.room c.args.q.header.now c.args.q.r.now.pieces c.args.opcode c.requires.context)
    c.args.terms.limits
    c.args.terms.room c.args.q.header.now c.args.q.r.now.left c.args.opcode c.requires.context refused)

pub returns-clause-told : goal.returns-clause-told
returns-clause-told c = λ request long first rest.
    let h = c.args.q.header.now in
    let options = fs_options_bits c.args.terms.options in
    let head = header_fits request h first in
    let whole = rw (c.in-Ok.ensures.ok, ← rest) at c.in-Ok-read_tail_of.ensures in
    let is = rw rest at (held_by_opcode request h head c.args.terms.limits options c.args.terms.room c.args.terms.len long c.requires.fits c.args.opcode
    c.requires.context c.in-Ok-read_tail_of.tail whole) in
    let placed = rw (c.as_bytes.ensures) at c.place_context.ensures in
    tells_held _ request h head c.args.terms.limits options c.args.terms.room c.args.terms.len long c.requires.fits c.args.w.now c.tell-asked.new.w c.args.opcode
    c.in-Ok-read_tail_of.tail _ c.tell-asked.result c.tell-asked.new.call c.place_context.new.call is c.tell-asked.ensures.told placed
