use Rattle.std.proofs.Common.{◌≡◌, ◌++◌, ◌+◌, ◌∙◌, ℕ, List, length, nat_lt, false, Err, ap, arith, rules, subst, sym, length-append}
use Rattle.std.proofs.lemmas.Bool.Decides.{nat_tests}
use Rattle.vfs_flags.specs.Flags.{fs_options_bits}
use Rattle.vfs_flags.specs.Numbers.{opcode_of}
use Rattle.vfs_wire.specs.Records.{in_header}
use Rattle.vfs_wire.specs.declared.headers.InHeader.{InHeader}
use Rattle.vfs_grammar.specs.Ask.{ask}
use Rattle.vfs_grammar.specs.Records.{record_of}
use Rattle.vfs_grammar.specs.declared.error.Error.{Error}
use Rattle.vfs_server.specs.MemoryByPieces.{MayWantAfter}
use Rattle.codec_decode.specs.Asked.{Tells, interrupted_by}
use Rattle.codec_decode.specs.Memory.{MayWantAfterHeader}
use Rattle.codec_decode.proofs.AtOnce.{front_header, front_rest}
use Rattle.codec_decode.proofs.Memory.{read_header_is, tells_less}
use Rattle.codec_decode.proofs.rest.ask_request_rest.Goals as goal

pub returns-clause-told : goal.returns-clause-told
returns-clause-told c =
    let head = c.args.head.now in
    let rest = c.args.r.left in
    let q = head ++ rest in
    let limits = c.args.limits in
    let room = c.args.room in
    let options = fs_options_bits c.args.options in
    let by = interrupted_by limits q in
    let h = c.in-Ok.header in
    let first = front_header head rest h c.requires.head (sym c.in-Ok.ensures) in
    let following = front_rest head rest c.requires.head in
    let long : length q ≡ 40 + length rest = length-append head rest ∙ ap (λ (n : ℕ). n + length rest) c.requires.head in
    let wanted = MayWantAfter limits options room (opcode_of h.opcode) h c.args.r.pieces in
    let told : Tells wanted q options by room (ask limits options room q) c.args.w.now c.ask_after.result
    c.ask_after.new.w c.ask_after.new.call = rw (first, following) (c.ask_after.ensures.told q (search (rules, long)) first following) in
    tells_less wanted (MayWantAfterHeader limits options room q c.args.r.pieces)
    (λ w. subst (λ (g : InHeader). MayWantAfter limits options room (opcode_of g.opcode) g c.args.r.pieces)
    (read_header_is q h first) w)
    q options by room (ask limits options room q) c.args.w.now _ _ _ told

-- forty bytes are a whole header
is_whole : (head : List ℕ) (e : Error) → length head ≡ 40 → Err e ≡ record_of in_header head → ⊥
is_whole head e long is =
    let whole : nat_lt (length head) 40 ≡ false = grind (arith, nat_tests, long) in
    let a = rw whole at is in cc

pub unreachable-requires : goal.unreachable-requires
unreachable-requires c = is_whole c.args.head.now _ c.requires.head (sym c.in-Err.is ∙ c.record_in-header.ensures)
