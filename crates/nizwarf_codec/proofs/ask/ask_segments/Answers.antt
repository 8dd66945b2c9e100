use Rattle.std.proofs.Common.{◌≡◌, ◌∷◌, List, ℕ, [], length, rules, subst, sym}
use Rattle.vfs_flags.specs.Flags.{fs_options_bits}
use Rattle.vfs_segments.specs.Lengths.{lengths_from}
use Rattle.vfs_segments.specs.Segments.{flat_bytes, segments_of}
use Rattle.vfs_grammar.specs.Ask.{ask}
use Rattle.codec_decode.specs.Memory.{MayWantAfterHeader}
use Rattle.c_rooms.specs.Codes.{no_memory}
use Rattle.nizwarf_codec.specs.Kept.{HasFor}
use Rattle.nizwarf_codec.proofs.ask.ask_segments.Goals as goal

pub returns-in-Some-clause-memory : goal.returns-in-Some-clause-memory
returns-in-Some-clause-memory c reply answer few none code =
    let all = flat_bytes (segments_of c.args.request.now) in
    let options = fs_options_bits c.args.options in
    let bytes = c.in-Some.ensures.1 in
    let following = lengths_from 0 (length c.in-Some.rest.now ∷ []) in
    let wants = λ (q p : List ℕ). MayWantAfterHeader c.args.limits options c.args.room q p in
    let want : c.ask_pieces.result ≡ no_memory = search (rules, code) in
    c.ask_pieces.ensures.memory reply
    (subst (λ (q : List ℕ). HasFor c.args.room (ask c.args.limits options c.args.room q) c.args.memory.now.answers) bytes answer)
    (λ w. none (subst (wants all) (sym c.in-Some.ensures.2) (subst (λ (q : List ℕ). wants q following) (sym bytes) w))) want
