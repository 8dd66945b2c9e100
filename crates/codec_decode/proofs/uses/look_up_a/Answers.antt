use Rattle.std.proofs.Common.{inl, inr}
use Rattle.vfs_flags.specs.Flags.{fs_options_bits}
use Rattle.vfs_flags.specs.Numbers.{opcode_of}
use Rattle.vfs_wire.specs.Fields.{number}
use Rattle.codec_decode.proofs.Short.{usual, told_in_all}
use Rattle.codec_decode.proofs.uses.look_up_a.Goals as goal

pub returns : goal.returns
unfolding number opcode_of
returns c =
    let told = told_in_all usual (fs_options_bits c.args.options) c.available_bytes-room.result c.args.r.left c.args.w.now c.ask.new.w c.ask.new.call c.ask.result
    c.ask.ensures.asked c.available_bytes-room.ensures in
    elim (rw (c.requires) at told) [
      | inl t ↦ inl (record { is_call = t.0; numbers = t.1.numbers; name = t.1.places })
      | inr t ↦ inr t.1
    ]
