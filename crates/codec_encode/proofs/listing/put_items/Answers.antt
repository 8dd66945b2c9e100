use Rattle.std.proofs.Common.{arith}
use Rattle.codec_encode.proofs.Taking.{taking_start, taking_more, taking_end, taking_unnamed, taking_full, taking_failed}
use Rattle.codec_encode.proofs.listing.put_items.Goals as goal

pub items-init : goal.items-init
items-init c = taking_start c.args.plus c.args.size c.args.items.now c.args.w.now

pub returns-in-None-clause-reads : goal.returns-in-None-clause-reads
returns-in-None-clause-reads c = rw c.of.ensures (taking_unnamed _ _ _ _ c.items.invariant _ c.items-test.true c.in-None.ensures)

pub overflow_sub-size : goal.overflow_sub-size
overflow_sub-size c = c.items.invariant.within

pub returns-in-Ok-eq0-clause-reads : goal.returns-in-Ok-eq0-clause-reads
returns-in-Ok-eq0-clause-reads c =
    rw c.of-in-Ok-eq0.ensures (taking_full _ _ _ _ c.items.invariant _ c.items-test.true (rw c.in-Ok-eq0.field-0-test at c.in-Ok-eq0.ensures))

pub returns-in-Err-clause-reads : goal.returns-in-Err-clause-reads
returns-in-Err-clause-reads c = taking_failed _ _ _ _ c.items.invariant _ c.items-test.true c.in-Err.ensures c.tell.ensures.answer c.tell.ensures.taken

pub items-preserved : goal.items-preserved
items-preserved c = taking_more _ _ _ _ c.items.invariant _ c.items-test.true c.in-Ok.ensures (omega arith)

pub returns-clause-reads : goal.returns-clause-reads
returns-clause-reads c = rw c.of-2.ensures (taking_end _ _ _ _ c.items.invariant (omega arith))
