-- The reply is that of the items which were offered, in all the room that was told.
use Rattle.std.proofs.Common.{◌≡◌, true, Some, length, subst, sym}
use Rattle.vfs_files.specs.Calls.{Iterators}
use Rattle.codec_encode.specs.Answering.{can_answer}
use Rattle.codec_encode.specs.Listing.{listing_told}
use Rattle.codec_encode.specs.Offered.{ListsOffered}
use Rattle.codec_encode.proofs.Listed.{short, listed, can_facts}
use Rattle.codec_encode.proofs.call.answer_directory.Goals as goal

pub answer_listed-requires-clause-short : goal.answer_listed-requires-clause-short
answer_listed-requires-clause-short c =
    let call = c.args.call.now in
    let can : can_answer (Some Iterators) call (length c.args.w.now.left) ≡ true = cc in
    let facts = can_facts (length c.args.w.now.left) call.room call.size can in
    short (listing_told call).plus call.size c.args.answer.now c.args.items.now c.hold_header.new.w c.list.result.answer c.list.result.taken c.list.new.w facts.2 c.list.ensures.lists

pub returns-in-Ok-clause-answers : goal.returns-in-Ok-clause-answers
returns-in-Ok-clause-answers c =
    let call = c.args.call.now in
    let can : can_answer (Some Iterators) call (length c.args.w.now.left) ≡ true = cc in
    let facts = can_facts (length c.args.w.now.left) call.room call.size can in
    let reply = c.answer_listed.ensures in
    let lists = subst (λ n. ListsOffered (listing_told call).plus call.size c.args.answer.now c.args.items.now c.hold_header.new.w c.list.result.answer n c.list.new.w) (sym reply.taken) c.list.ensures.lists in (
      can,
      listed call c.args.answer.now c.args.items.now c.args.w.now c.hold_header.new.w c.list.new.w c.list.result.answer c.answer_listed.result c.answer_listed.new.w
          c.in-Ok.ensures.held facts.1 facts.0 facts.2 reply.kind reply.replied reply.options reply.given lists,
    )
