use Rattle.std.proofs.Common.{◌++◌, ◌+◌, ◌∙◌, ap, length, length-append, sym}
use Rattle.vfs_flags.specs.Flags.{fs_options_bits}
use Rattle.codec_decode.proofs.AtOnce.{asks_of_whole, front_header, front_rest}
use Rattle.codec_decode.proofs.at_once.ask_at_once.Goals as goal

pub returns-clause-told : goal.returns-clause-told
returns-clause-told c = λ said w after space.
    let q = c.args.head.now ++ c.args.rest.now in
    let first = front_header c.args.head.now c.args.rest.now c.in-Ok.header c.requires.head (sym c.in-Ok.ensures) in
    let following = front_rest c.args.head.now c.args.rest.now c.requires.head in
    rw (space, first, following) (c.tell_at_once.ensures.told said w after q (length-append c.args.head.now c.args.rest.now ∙ ap (λ n. n + length c.args.rest.now) c.requires.head) first following)

pub returns-clause-all : goal.returns-clause-all
returns-clause-all c = λ asks.
    let are = asks_of_whole c.args.limits (fs_options_bits c.args.options) c.args.room c.args.head.now c.args.rest.now c.in-Ok.header c.requires.head
    (sym c.in-Ok.ensures) asks in
    c.tell_at_once.ensures.all are.0 are.1
