use Rattle.std.proofs.Common.{◌≡◌, ◌≤◌, ◌∙◌, length, drop, refl, arith, rules, subst, sym}
use Rattle.vfs_flags.specs.Flags.{fs_options_bits}
use Rattle.vfs_flags.specs.Numbers.{opcode_of}
use Rattle.vfs_wire.specs.declared.headers.InHeader.{InHeader}
use Rattle.vfs_segments.specs.Lengths.{lengths_from}
use Rattle.vfs_grammar.specs.Ask.{ask}
use Rattle.vfs_server.specs.MemoryByPieces.{MayWantAfter}
use Rattle.codec_decode.specs.Asked.{Tells, interrupted_by}
use Rattle.codec_decode.specs.Memory.{MayWant}
use Rattle.codec_decode.specs.WithOpcode.{unread_with_opcode, with_opcode}
use Rattle.codec_decode.proofs.Memory.{read_header_is, tells_less}
use Rattle.codec_decode.proofs.WithOpcode.{header_as, header_whole, none_as, same_length, same_rest}
use Rattle.codec_decode.proofs.with_opcode.ask_request_as.Goals as goal

pub returns-in-Ok-clause-told : goal.returns-in-Ok-clause-told
returns-in-Ok-clause-told c =
    let q = c.args.r.left in
    let n = c.args.opcode in
    let named = with_opcode n q in
    let limits = c.args.limits in
    let room = c.args.room in
    let options = fs_options_bits c.args.options in
    let by = interrupted_by limits named in
    let h : InHeader = record c.in-Ok.header { opcode = n } in
    let left = c.read_record-header.new.reader in
    let whole : 40 ≤ length q = header_whole q c.in-Ok.header c.in-Ok.ensures.value in
    let eight : 8 ≤ length q = omega (arith, whole) in
    let is = header_as n c.ranges.opcode.fits q c.in-Ok.header c.in-Ok.ensures.value in
    let moved : left.left ≡ drop 40 q = search rules in
    let rest : drop 40 named ≡ left.left = same_rest n c.ranges.opcode.fits q eight ∙ sym moved in
    let long : length q ≡ c.available_bytes-len.result = search rules in
    let wanted = MayWantAfter limits options room (opcode_of n) h left.pieces in
    let following = c.ask_after.ensures.told named (same_length n c.ranges.opcode.fits q eight ∙ long) is rest in
    let told : Tells wanted named options by room (ask limits options room named) c.args.w.now c.ask_after.result
    c.ask_after.new.w c.ask_after.new.call = rw (is, rest) following in
    tells_less wanted (MayWant limits options room (unread_with_opcode n c.args.r))
    (λ w. subst (λ (g : InHeader). MayWantAfter limits options room (opcode_of g.opcode) g (lengths_from 40 c.args.r.pieces))
    (read_header_is named h is) (rw c.in-Ok.ensures.pieces at w))
    named options by room (ask limits options room named) c.args.w.now _ _ _ told

pub returns-clause-told : goal.returns-clause-told
returns-clause-told c =
    rw (none_as c.args.opcode c.args.r.left c.in-Err.error c.in-Err.ensures.value, c.finished.ensures)
    ((refl, refl), refl, search rules)
