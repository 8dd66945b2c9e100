use Rattle.std.proofs.Common.{◌≡◌, rules, subst}
use Rattle.codec_calls.specs.declared.data.AnswerData.{AnswerData}
use Rattle.codec_encode.specs.Fitting.{answer_offered}
use Rattle.nizwarf_codec.specs.Answering.{AnswersOrNot}
use Rattle.nizwarf_codec.specs.Session.{limits_of}
use Rattle.nizwarf_codec.specs.Shown.{shown_in}
use Rattle.nizwarf_codec.proofs.Answering.{answered_as, fitting_is, no_record, turned_as}
use Rattle.nizwarf_codec.proofs.Asking.{stays_for}
use Rattle.nizwarf_codec.proofs.Turns.{answered_or_not}
use Rattle.nizwarf_codec.proofs.nizwarf_encode_at.Goals as goal

pub returns-clause-wrong : goal.returns-clause-wrong
returns-clause-wrong c wrong =
    let w = c.answer_in_slot.ensures.wrong wrong in
    (search (rules, w), w.1, w.2)

pub returns-clause-answered : goal.returns-clause-answered
returns-clause-answered c are =
    let fit = fitting_is c.unfit_answer-unfit.result _ c.in_place-fitting.result.now c.args.answer.now
    c.unfit_answer-unfit.ensures c.in_place-fitting.ensures in
    let h = answered_as _ _ _ _ _ _ _ _ _ _ fit (c.answer_in_slot.ensures.answered are) in
    search (rules, h)

pub returns-clause-fitted : goal.returns-clause-fitted
returns-clause-fitted c are =
    let fit = fitting_is c.unfit_answer-unfit.result _ c.in_place-fitting.result.now c.args.answer.now
    c.unfit_answer-unfit.ensures c.in_place-fitting.ensures in
    let h = answered_or_not _ are _ _ _ _ _ _ _ _
    (answered_as _ _ _ _ _ _ _ _ _ _ fit (c.answer_in_slot.ensures.answered are)) in
    search (rules, h)

pub returns-clause-promise : goal.returns-clause-promise
returns-clause-promise c no_lock no_statx no_ioctl are =
    turned_as _ _ _ _ _ _ _ _ _ _ (no_record c.args.call.now c.args.answer.now c.args.text.now no_lock no_statx no_ioctl)
    (returns-clause-fitted c are)

pub returns-clause-stays : goal.returns-clause-stays
returns-clause-stays c less asks holds =
    stays_for less asks c.args.handle.now.value c.answer_in_slot.new.handle.value c.answer_in_slot.ensures.some
    c.answer_in_slot.ensures.keeps holds
