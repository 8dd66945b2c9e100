use Rattle.std.proofs.Common.{rules}
use Rattle.vfs_flags.specs.Flags.{fs_options_bits}
use Rattle.vfs_flags.specs.Numbers.{opcode_of}
use Rattle.vfs_grammar.specs.Ask.{ask}
use Rattle.vfs_server.specs.MemoryByPieces.{MayWantAfter}
use Rattle.codec_decode.specs.Asked.{Tells, interrupted_by}
use Rattle.codec_decode.specs.Memory.{MayWant}
use Rattle.codec_decode.proofs.Memory.{read_header_is, tells_less}
use Rattle.codec_decode.proofs.asked.ask_request.Goals as goal

pub returns-in-Ok-clause-told : goal.returns-in-Ok-clause-told
returns-in-Ok-clause-told c =
    let q = c.args.r.left in
    let options = fs_options_bits c.args.options in
    let by = interrupted_by c.args.limits q in
    let h = c.in-Ok.header in
    let wanted = MayWantAfter c.args.limits options c.args.room (opcode_of h.opcode) h c.read_record-header.new.reader.pieces in
    let told : Tells wanted q options by c.args.room (ask c.args.limits options c.args.room q) c.args.w.now
    c.ask_after.result c.ask_after.new.w c.ask_after.new.call = search rules in
    tells_less wanted (MayWant c.args.limits options c.args.room c.args.r)
    (λ w. rw (c.in-Ok.ensures.pieces, read_header_is q h c.in-Ok.ensures.value) at w)
    q options by c.args.room (ask c.args.limits options c.args.room q) c.args.w.now _ _ _ told
