use Rattle.std.proofs.Common.{drop, replicate, subst}
use Rattle.vfs_segments.specs.Segments.{segments_of, flat_bytes}
use Rattle.codec_decode.specs.Further.{What, Tells}
use Rattle.codec_decode.proofs.Beginning.{front}
use Rattle.codec_decode.proofs.row.ask_offered.Goals as goal

pub returns : goal.returns
returns c =
    let q = flat_bytes (segments_of c.args.request.now) in
    let n = c.copy_front-len.result in
    subst (λ (w : What). Tells w (λ c. c) c.ask_front.result c.args.call.now c.ask_front.new.call)
    (front c.args.offers c.args.limits q n (drop n (replicate 96 0)) c.copy_front-len.ensures.count)
    (rw (c.copy_front-len.ensures.copied) at c.ask_front.ensures)
