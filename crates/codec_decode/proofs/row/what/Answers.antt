use Rattle.vfs_flags.specs.Flags.{fs_options_bits}
use Rattle.vfs_segments.specs.Segments.{segments_of, flat_bytes}
use Rattle.codec_decode.specs.Further.{told_under, what_of}
use Rattle.codec_decode.proofs.Beginning.{tells_none, tells_row}
use Rattle.codec_decode.proofs.row.what.Goals as goal

pub returns-in-Row : goal.returns-in-Row
returns-in-Row c =
    rw (c.bits-call.ensures) (tells_row (what_of c.args.offers c.args.limits (flat_bytes (segments_of c.args.request.now)))
    (told_under (fs_options_bits c.args.options) c.args.room) c.ask_offered-further.result c.args.call.now
    c.ask_offered-further.new.call c.in-Row.is c.ask_offered-further.ensures)

pub returns-in_default : goal.returns-in_default
returns-in_default c =
    tells_none (what_of c.args.offers c.args.limits (flat_bytes (segments_of c.args.request.now)))
    (told_under (fs_options_bits c.args.options) c.args.room) c.ask_offered-further.result c.args.call.now
    c.ask_offered-further.new.call c.in_default.not-Row c.ask_offered-further.ensures
