use Rattle.std.proofs.Common.{inl, inr}
use Rattle.vfs_flags.specs.Flags.{fs_options_bits}
use Rattle.vfs_flags.specs.Numbers.{opcode_of}
use Rattle.vfs_wire.specs.Fields.{number}
use Rattle.vfs_grammar.specs.Extensions.{cut_of, extensions_in}
use Rattle.codec_decode.proofs.Short.{usual, told_in_all}
use Rattle.codec_decode.proofs.uses.make_with_context.Goals as goal

pub returns : goal.returns
unfolding number opcode_of extensions_in cut_of
returns c =
    let told = told_in_all usual (fs_options_bits c.args.options) c.available_bytes-room.result c.args.r.left c.args.w.now c.ask.new.w c.ask.new.call c.ask.result
    c.ask.ensures.asked c.available_bytes-room.ensures in
    elim (rw (c.requires.request, c.requires.options) at told) [
      | inl t ↦ inl (record {
        is_call = t.0;
        name = t.1.places.0;
        context_name = t.1.places.1.0;
        context = t.1.places.1.1.bytes_are;
      })
      | inr t ↦ inr t.1
    ]
