use Rattle.std.proofs.Common.{◌++◌, ap, arith, length}
use Rattle.vfs_flags.specs.Flags.{fs_options_bits}
use Rattle.vfs_flags.specs.Numbers.{opcode_of}
use Rattle.vfs_wire.specs.Fields.{little, number}
use Rattle.codec_decode.proofs.Short.{usual, told_in_all}
use Rattle.codec_decode.proofs.uses.getattr_of_a_head.Goals as goal

pub ask_rest-requires-clause-head : goal.ask_rest-requires-clause-head
unfolding little
ask_rest-requires-clause-head c = ap length c.requires.head

pub ask_rest-requires-clause-fits : goal.ask_rest-requires-clause-fits
ask_rest-requires-clause-fits c = omega (arith, ap length c.requires.rest)

pub returns : goal.returns
unfolding little number opcode_of
returns c =
    let told = told_in_all usual (fs_options_bits c.args.options) c.available_bytes-room.result (c.args.head.now ++ c.args.r.left)
    c.args.w.now c.ask_rest.new.w c.ask_rest.new.call c.ask_rest.result c.ask_rest.ensures.asked c.available_bytes-room.ensures in
    rw (c.requires.head, c.requires.rest) at told
