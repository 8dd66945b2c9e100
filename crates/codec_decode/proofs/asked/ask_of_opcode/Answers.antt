use Rattle.std.proofs.Common.{◌∙◌, sym}
use Rattle.vfs_flags.specs.Flags.{fs_options_bits}
use Rattle.codec_decode.proofs.Placing.{header_fits, told_by_opcode}
use Rattle.codec_decode.proofs.Telling.{tells_noted}
use Rattle.codec_decode.proofs.asked.ask_of_opcode.Goals as goal

pub returns-else-may_have_context-clause-told : goal.returns-else-may_have_context-clause-told
returns-else-may_have_context-clause-told c = λ request long first rest.
    let h = c.args.q.header.now in
    let options = fs_options_bits c.args.terms.options in
    let is = rw rest at (told_by_opcode request h (header_fits request h first) c.args.terms.limits options c.args.terms.room c.args.terms.len long
    c.requires.fits c.args.opcode c.requires.no_init c.requires.no_readdir c.requires.no_readdirplus (sym c.may_have_context.ensures ∙ c.if-may_have_context.false)) in
    tells_noted _ request options c.args.terms.room c.args.w.now c.tell.new.w h c.args.terms.len c.args.opcode _ c.tell.result c.tell.new.call is c.tell.ensures.told
