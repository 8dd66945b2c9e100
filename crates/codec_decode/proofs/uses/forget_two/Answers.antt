use Rattle.std.proofs.Common.{ap, inl, inr}
use Rattle.vfs_flags.specs.Flags.{fs_options_bits}
use Rattle.vfs_flags.specs.Numbers.{opcode_of}
use Rattle.vfs_wire.specs.Fields.{number}
use Rattle.codec_calls.specs.declared.call.CallData.{CallData}
use Rattle.codec_decode.proofs.Short.{usual, told_in_all}
use Rattle.codec_decode.proofs.uses.forget_two.Goals as goal

pub returns : goal.returns
unfolding number opcode_of
returns c =
    let told = told_in_all usual (fs_options_bits c.args.options) c.available_bytes-room.result c.args.r.left c.args.w.now c.ask.new.w c.ask.new.call c.ask.result
    c.ask.ensures.asked c.available_bytes-room.ensures in
    elim (rw (c.requires) at told) [
      | inl t ↦ inl (record {
        is_call = t.0;
        number = ap (λ (d : CallData). d.call) t.1.numbers;
        size = ap (λ (d : CallData). d.data.len) t.1.numbers;
        within = t.1.places.within;
        pairs = t.1.places.pairs_are;
      })
      | inr t ↦ inr t.1
    ]
