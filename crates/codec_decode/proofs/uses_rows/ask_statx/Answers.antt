use Rattle.vfs_wire.specs.Fields.{number}
use Rattle.codec_decode.proofs.uses_rows.ask_statx.Goals as goal

pub returns : goal.returns
unfolding number
returns c = rw (c.requires) at c.what.ensures
