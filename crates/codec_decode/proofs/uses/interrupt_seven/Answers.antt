use Rattle.vfs_flags.specs.Flags.{fs_options_bits}
use Rattle.vfs_flags.specs.Numbers.{opcode_of}
use Rattle.vfs_wire.specs.Fields.{number}
use Rattle.codec_decode.proofs.Short.{usual, told_in_all}
use Rattle.codec_decode.proofs.uses.interrupt_seven.Goals as goal

pub returns-in-Finished-clause-told : goal.returns-in-Finished-clause-told
unfolding number opcode_of
returns-in-Finished-clause-told c =
    let told = told_in_all usual (fs_options_bits c.args.options) c.available_bytes-room.result c.args.r.left c.args.w.now c.ask.new.w c.ask.new.call c.ask.result
    c.ask.ensures.asked c.available_bytes-room.ensures in
    (rw (c.requires, c.in-Finished.is) at told).1

pub returns-in-Finished-clause-no_call : goal.returns-in-Finished-clause-no_call
unfolding number opcode_of
returns-in-Finished-clause-no_call c =
    let told = told_in_all usual (fs_options_bits c.args.options) c.available_bytes-room.result c.args.r.left c.args.w.now c.ask.new.w c.ask.new.call c.ask.result
    c.ask.ensures.asked c.available_bytes-room.ensures in
    (rw (c.requires, c.in-Finished.is) at told).2

pub returns-in-Call-clause-told : goal.returns-in-Call-clause-told
unfolding number opcode_of
returns-in-Call-clause-told c =
    let told = told_in_all usual (fs_options_bits c.args.options) c.available_bytes-room.result c.args.r.left c.args.w.now c.ask.new.w c.ask.new.call c.ask.result
    c.ask.ensures.asked c.available_bytes-room.ensures in
    absurd (rw (c.requires, c.in-Call.is) at told)

pub returns-in-Call-clause-no_call : goal.returns-in-Call-clause-no_call
unfolding number opcode_of
returns-in-Call-clause-no_call c =
    let told = told_in_all usual (fs_options_bits c.args.options) c.available_bytes-room.result c.args.r.left c.args.w.now c.ask.new.w c.ask.new.call c.ask.result
    c.ask.ensures.asked c.available_bytes-room.ensures in
    absurd (rw (c.requires, c.in-Call.is) at told)
