use Rattle.codec_encode.proofs.Taking.{Taking}
use Rattle.codec_encode.proofs.listing.put_items.Given as goal

abbrev pub invariant-items : goal.invariant-items
invariant-items l = Taking l.plus l.size l.items l.fn.w l.offered-index l.written l.taken l.w
