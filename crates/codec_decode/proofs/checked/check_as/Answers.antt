use Rattle.std.proofs.Common.{◌≡◌, ◌≤◌, ◌∙◌, length, drop, refl, arith, rules, subst, sym}
use Rattle.vfs_flags.specs.Flags.{fs_options_bits}
use Rattle.vfs_flags.specs.Numbers.{opcode_of}
use Rattle.vfs_wire.specs.declared.headers.InHeader.{InHeader}
use Rattle.vfs_segments.specs.Lengths.{lengths_from}
use Rattle.vfs_grammar.specs.Ask.{ask}
use Rattle.vfs_server.specs.MemoryByPieces.{MayWantAfter}
use Rattle.codec_decode.specs.Asked.{interrupted_by}
use Rattle.codec_decode.specs.Checked.{Judges}
use Rattle.codec_decode.specs.Memory.{MayWant}
use Rattle.codec_decode.specs.WithOpcode.{unread_with_opcode, with_opcode}
use Rattle.codec_decode.proofs.Checking.{judges_less}
use Rattle.codec_decode.proofs.Memory.{read_header_is}
use Rattle.codec_decode.proofs.WithOpcode.{header_as, header_whole, none_as, same_length, same_rest}
use Rattle.codec_decode.proofs.checked.check_as.Goals as goal

pub returns-in-Ok : goal.returns-in-Ok
returns-in-Ok c =
    let q = c.args.r.left in
    let n = c.args.opcode in
    let named = with_opcode n q in
    let limits = c.args.limits in
    let room = c.args.room in
    let options = fs_options_bits c.args.options in
    let by = interrupted_by limits named in
    let h : InHeader = record c.in-Ok.header { opcode = n } in
    let left = c.read_record-header.new.reader in
    let whole : 40 ≤ length q = header_whole q c.in-Ok.header c.in-Ok.ensures.value in
    let eight : 8 ≤ length q = omega (arith, whole) in
    let is = header_as n c.ranges.opcode.fits q c.in-Ok.header c.in-Ok.ensures.value in
    let moved : left.left ≡ drop 40 q = search rules in
    let rest : drop 40 named ≡ left.left = same_rest n c.ranges.opcode.fits q eight ∙ sym moved in
    let long : length q ≡ c.available_bytes-len.result = search rules in
    let wanted = MayWantAfter limits options room (opcode_of n) h left.pieces in
    let following = c.check_after.ensures named (same_length n c.ranges.opcode.fits q eight ∙ long) is rest in
    let said : Judges wanted named options by room (ask limits options room named) c.check_after.result
    c.check_after.new.call = rw (is, rest) following in
    judges_less (MayWant limits options room (unread_with_opcode n c.args.r)) wanted
    (λ w. subst (λ (g : InHeader). MayWantAfter limits options room (opcode_of g.opcode) g (lengths_from 40 c.args.r.pieces))
    (read_header_is named h is) (rw c.in-Ok.ensures.pieces at w))
    named options by room (ask limits options room named) _ _ said

pub returns : goal.returns
returns c = rw (none_as c.args.opcode c.args.r.left c.in-Err.error c.in-Err.ensures.value) (refl, search rules)
