use Rattle.std.proofs.Common.{rules}
use Rattle.vfs_flags.specs.Flags.{fs_options_bits}
use Rattle.vfs_flags.specs.Numbers.{opcode_of}
use Rattle.vfs_grammar.specs.Ask.{ask}
use Rattle.vfs_server.specs.MemoryByPieces.{MayWantAfter}
use Rattle.codec_decode.specs.Asked.{interrupted_by}
use Rattle.codec_decode.specs.Checked.{Judges}
use Rattle.codec_decode.specs.Memory.{MayWant}
use Rattle.codec_decode.proofs.Checking.{judges_less}
use Rattle.codec_decode.proofs.Memory.{read_header_is}
use Rattle.codec_decode.proofs.checked.check.Goals as goal

pub returns-in-Ok : goal.returns-in-Ok
returns-in-Ok c =
    let q = c.args.r.left in
    let options = fs_options_bits c.args.options in
    let by = interrupted_by c.args.limits q in
    let h = c.in-Ok.header in
    let wanted = MayWantAfter c.args.limits options c.args.room (opcode_of h.opcode) h c.read_record-header.new.reader.pieces in
    let said : Judges wanted q options by c.args.room (ask c.args.limits options c.args.room q) c.check_after.result
    c.check_after.new.call = search rules in
    judges_less (MayWant c.args.limits options c.args.room c.args.r) wanted
    (λ w. rw (c.in-Ok.ensures.pieces, read_header_is q h c.in-Ok.ensures.value) at w)
    q options by c.args.room (ask c.args.limits options c.args.room q) _ _ said
