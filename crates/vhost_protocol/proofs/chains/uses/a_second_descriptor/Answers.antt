use Rattle.std.proofs.Common.{arith}
use Rattle.vhost_protocol.proofs.chains.uses.a_second_descriptor.Goals as goal

pub returns : goal.returns
returns c table bytes long = c.words_are_bytes.ensures table 16 bytes (omega (arith, long))
