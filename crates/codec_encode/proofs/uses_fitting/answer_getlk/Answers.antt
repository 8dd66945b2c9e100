use Rattle.codec_encode.proofs.Locks.{lock_answered}
use Rattle.codec_encode.proofs.uses_fitting.answer_getlk.Goals as goal

pub returns : goal.returns
returns c =
    lock_answered _ c.args.a.now c.args.lock.now c.args.w.now c.answer_offered.new.w c.requires.fine c.requires.lock
    c.requires.room c.answer_offered.result
    (rw (c.requires.asked) at c.answer_offered.ensures.by_kind)
