use Rattle.vfs_flags.specs.Numbers.{opcode_of}
use Rattle.codec_decode.proofs.uses.get_attributes.Goals as goal

pub returns : goal.returns
unfolding opcode_of
returns c = (rw (c.requires) at c.ask.ensures.memory) (λ wanted. wanted)
