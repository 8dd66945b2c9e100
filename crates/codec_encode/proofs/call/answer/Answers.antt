use Rattle.codec_encode.proofs.Telling.{each_call, each_listing}
use Rattle.codec_encode.proofs.call.answer.Goals as goal

pub returns-clause-calls : goal.returns-clause-calls
returns-clause-calls c =
    each_call c.args.limits c.args.call.now c.args.answer.now c.args.text.now c.args.items.now c.args.w.now c.answer_kind.new.w c.answer_kind.result c.answer_kind.ensures.answers

pub returns-clause-listings : goal.returns-clause-listings
returns-clause-listings c =
    each_listing c.args.limits c.args.call.now c.args.answer.now c.args.text.now c.args.items.now c.args.w.now c.answer_kind.new.w c.answer_kind.result c.answer_kind.ensures.answers
