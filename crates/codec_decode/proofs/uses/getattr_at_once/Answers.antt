use Rattle.std.proofs.Common.{◌≡◌, false, length, nat_lt, inl, inr, refl, arith}
use Rattle.std.proofs.lemmas.Bool.Decides.{nat_tests}
use Rattle.vfs_flags.specs.Flags.{fs_options_bits}
use Rattle.vfs_flags.specs.Numbers.{opcode_of}
use Rattle.vfs_wire.specs.Fields.{number, value_of}
use Rattle.vfs_wire.specs.Records.{in_header}
use Rattle.vfs_grammar.specs.Samples.{header_9}
use Rattle.codec_decode.proofs.AtOnce.{asks_whole}
use Rattle.codec_decode.proofs.Short.{usual}
use Rattle.codec_decode.proofs.uses.getattr_at_once.Goals as goal

pub returns : goal.returns
unfolding number opcode_of
returns c =
    let whole : nat_lt (length c.args.rest.now) 16 ≡ false = grind (arith, nat_tests, c.requires.rest) in
    (rw (c.requires.head) at c.ask_at_once.ensures.all)
    (asks_whole usual (fs_options_bits c.args.options) c.args.room (header_9 56 3) c.args.rest.now (value_of in_header (header_9 56 3)) refl refl
    (inr (inl refl)) (rw whole (tt {0})))
