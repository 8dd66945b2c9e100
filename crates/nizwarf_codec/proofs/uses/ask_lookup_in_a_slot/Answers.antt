use Rattle.std.proofs.Common.{◌≡◌, ◌≢◌, ◌≤◌, List, ℕ, length, ap, arith, rules}
use Rattle.vfs_flags.specs.Numbers.{opcode_of}
use Rattle.vfs_wire.specs.Fields.{number}
use Rattle.vfs_grammar.specs.Samples.{lookup_of_a}
use Rattle.vfs_segments.specs.Segments.{flat_bytes, segments_of}
use Rattle.c_rooms.specs.Codes.{no_memory}
use Rattle.nizwarf_codec.proofs.Lookup.{are_limits, asked_for, looked_up, usual_session}
use Rattle.nizwarf_codec.proofs.OfferedAsks.{plain_asked, plain_memory}
use Rattle.nizwarf_codec.specs.Shown.{shown_in}
use Rattle.nizwarf_codec.proofs.uses.ask_lookup_in_a_slot.Goals as goal

pub returns-clause-code : goal.returns-clause-code
unfolding number opcode_of
returns-clause-code c =
    let bytes : flat_bytes (segments_of c.args.lookup.now) ≡ lookup_of_a = ap (λ (x : List (List ℕ)). flat_bytes x) c.requires.bytes in
    let few : length c.args.lookup.now ≤ 4 = omega (arith, c.requires.one) in
    let has : c.nizwarf_decode_at.result ≢ no_memory =
    plain_memory usual_session c.args.lookup.now 4096 c.nizwarf_decode_at.result c.args.handle.now.value c.nizwarf_decode_at.ensures.memory (rw bytes c.requires.slot) few (rw c.requires.bytes (λ cut. let a = cut in cc)) in
    let told = asked_for _ _ _ _ _ (looked_up _ _ _ _ _ _ bytes (plain_asked usual_session c.args.lookup.now 4096 c.nizwarf_decode_at.result c.nizwarf_decode_at.new.call c.args.told.now c.nizwarf_decode_at.new.told
    (shown_in c.nizwarf_decode_at.new.handle.value) c.nizwarf_decode_at.ensures.asked are_limits)) has in
    let is = told.0 in
    search rules

pub returns-clause-call : goal.returns-clause-call
unfolding number opcode_of
returns-clause-call c =
    let bytes : flat_bytes (segments_of c.args.lookup.now) ≡ lookup_of_a = ap (λ (x : List (List ℕ)). flat_bytes x) c.requires.bytes in
    let few : length c.args.lookup.now ≤ 4 = omega (arith, c.requires.one) in
    let has : c.nizwarf_decode_at.result ≢ no_memory =
    plain_memory usual_session c.args.lookup.now 4096 c.nizwarf_decode_at.result c.args.handle.now.value c.nizwarf_decode_at.ensures.memory (rw bytes c.requires.slot) few (rw c.requires.bytes (λ cut. let a = cut in cc)) in
    (asked_for _ _ _ _ _ (looked_up _ _ _ _ _ _ bytes (plain_asked usual_session c.args.lookup.now 4096 c.nizwarf_decode_at.result c.nizwarf_decode_at.new.call c.args.told.now c.nizwarf_decode_at.new.told
    (shown_in c.nizwarf_decode_at.new.handle.value) c.nizwarf_decode_at.ensures.asked are_limits)) has).1
