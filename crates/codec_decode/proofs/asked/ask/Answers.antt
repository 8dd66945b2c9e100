use Rattle.std.proofs.Common.{◌≡◌, ◌++◌, length, arith, length-append}
use Rattle.std.specs.Prelude.{⊤}
use Rattle.vfs_flags.specs.Flags.{fs_options_bits}
use Rattle.vfs_grammar.specs.Ask.{ask}
use Rattle.codec_decode.specs.Asked.{Tells, interrupted_by}
use Rattle.codec_decode.specs.Memory.{MayWant}
use Rattle.codec_decode.proofs.Memory.{lacks_no_memory, tells_less}
use Rattle.codec_decode.proofs.Short.{told_in_room, lies_within}
use Rattle.codec_decode.proofs.asked.ask.Goals as goal

pub returns-clause-asked : goal.returns-clause-asked
returns-clause-asked c = λ following sum.
    let q = c.args.r.left in
    let options = fs_options_bits c.args.options in
    let by = interrupted_by c.args.limits q in
    let less : Tells ⊤ q options by c.args.room (ask c.args.limits options c.args.room q) c.args.w.now
    c.ask_request.result c.ask_request.new.w c.ask_request.new.call =
    tells_less (MayWant c.args.limits options c.args.room c.args.r) ⊤ (λ w. tt) q options by c.args.room
    (ask c.args.limits options c.args.room q) c.args.w.now _ _ _ c.ask_request.ensures.told in
    let all : length (c.args.w.now.left ++ following) ≡ c.args.room = omega (arith, sum, length-append c.args.w.now.left following) in
    rw all (told_in_room ⊤ q c.args.limits options by c.args.room c.args.w.now _ _ following _ sum c.requires.enough less)

pub returns-clause-within : goal.returns-clause-within
returns-clause-within c =
    let q = c.args.r.left in
    let options = fs_options_bits c.args.options in
    lies_within (MayWant c.args.limits options c.args.room c.args.r) q c.args.limits options (interrupted_by c.args.limits q)
    c.args.room c.args.w.now _ _ _ c.ask_request.ensures.told

pub returns-clause-memory : goal.returns-clause-memory
returns-clause-memory c = λ none.
    let q = c.args.r.left in
    let options = fs_options_bits c.args.options in
    lacks_no_memory (MayWant c.args.limits options c.args.room c.args.r) none q c.args.limits options
    (interrupted_by c.args.limits q) c.args.room c.args.w.now _ _ _ c.requires.enough c.ask_request.ensures.told
