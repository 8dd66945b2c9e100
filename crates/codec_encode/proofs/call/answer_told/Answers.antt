-- Each arm's reply is that of the kind which was matched.
use Rattle.std.proofs.Common.{◌≡◌, ◌==◌, true, length, refl, ap, arith}
use Rattle.std.proofs.lemmas.Bool.Decides.{nat_tests}
use Rattle.vfs_files.specs.Answers.{Quiet, Told, Untold, Agreements, Entries, TimedAttributes, Openings, Creations, Capacities, Texts, TextsOrCounts, Offsets, Writes, Faults, Done, Failed, init_answer, done_answer, opened_answer, created_answer, statistics_answer, offset_answer, written_answer}
use Rattle.codec_encode.specs.Kinds.{kind_told}
use Rattle.codec_encode.specs.Said.{text_said, value_said}
use Rattle.codec_encode.proofs.Told.{answered}
use Rattle.codec_encode.proofs.call.answer_told.Goals as goal

pub returns-in-0-clause-answers : goal.returns-in-0-clause-answers
returns-in-0-clause-answers c =
    let room : (length c.args.w.now.left == c.args.call.now.room) ≡ true = grind (arith, nat_tests, c.requires.room) in
    answered c.args.limits c.args.call.now Quiet c.args.answer.now c.args.text.now c.args.w.now c.put_nothing.result c.put_nothing.new.w (Done) (ap (λ n. kind_told n c.args.call.now.size) c.in-0.is) c.requires.room room (refl) (c.put_nothing.ensures c.args.limits) tt

pub returns-in-1-clause-answers : goal.returns-in-1-clause-answers
returns-in-1-clause-answers c =
    let room : (length c.args.w.now.left == c.args.call.now.room) ≡ true = grind (arith, nat_tests, c.requires.room) in
    answered c.args.limits c.args.call.now Told c.args.answer.now c.args.text.now c.args.w.now c.put_done.result c.put_done.new.w (done_answer c.done.result) (ap (λ n. kind_told n c.args.call.now.size) c.in-1.is) c.requires.room room (c.done.ensures.told c.args.text.now c.args.w.now.left) (c.put_done.ensures c.args.limits) tt

pub returns-in-2-clause-answers : goal.returns-in-2-clause-answers
returns-in-2-clause-answers c =
    let room : (length c.args.w.now.left == c.args.call.now.room) ≡ true = grind (arith, nat_tests, c.requires.room) in
    answered c.args.limits c.args.call.now Untold c.args.answer.now c.args.text.now c.args.w.now c.put_fault.result c.put_fault.new.w (done_answer c.done-in-2.result) (ap (λ n. kind_told n c.args.call.now.size) c.in-2.is) c.requires.room room (c.done-in-2.ensures.untold c.args.text.now c.args.w.now.left) (c.put_fault.ensures c.args.limits) tt

pub returns-in-4-clause-answers : goal.returns-in-4-clause-answers
returns-in-4-clause-answers c =
    let room : (length c.args.w.now.left == c.args.call.now.room) ≡ true = grind (arith, nat_tests, c.requires.room) in
    answered c.args.limits c.args.call.now Agreements c.args.answer.now c.args.text.now c.args.w.now c.put_agreed.result c.put_agreed.new.w (init_answer c.want.result) (ap (λ n. kind_told n c.args.call.now.size) c.in-4.is) c.requires.room room (c.want.ensures c.args.text.now c.args.w.now.left) (c.put_agreed.ensures) tt

pub returns-in-5-clause-answers : goal.returns-in-5-clause-answers
returns-in-5-clause-answers c =
    let room : (length c.args.w.now.left == c.args.call.now.room) ≡ true = grind (arith, nat_tests, c.requires.room) in
    let is = c.answer_entry.ensures c.args.limits c.args.text.now in
    answered c.args.limits c.args.call.now Entries c.args.answer.now c.args.text.now c.args.w.now c.answer_entry.result c.answer_entry.new.w is.answer (ap (λ n. kind_told n c.args.call.now.size) c.in-5.is) c.requires.room room is.said is.comes tt

pub returns-in-5-clause-none_taken : goal.returns-in-5-clause-none_taken
returns-in-5-clause-none_taken c = (c.answer_entry.ensures c.args.limits c.args.text.now).comes.4

pub returns-in-6-clause-answers : goal.returns-in-6-clause-answers
returns-in-6-clause-answers c =
    let room : (length c.args.w.now.left == c.args.call.now.room) ≡ true = grind (arith, nat_tests, c.requires.room) in
    let is = c.answer_attributes.ensures c.args.limits c.args.text.now in
    answered c.args.limits c.args.call.now TimedAttributes c.args.answer.now c.args.text.now c.args.w.now c.answer_attributes.result c.answer_attributes.new.w is.answer (ap (λ n. kind_told n c.args.call.now.size) c.in-6.is) c.requires.room room is.said is.comes tt

pub returns-in-6-clause-none_taken : goal.returns-in-6-clause-none_taken
returns-in-6-clause-none_taken c = (c.answer_attributes.ensures c.args.limits c.args.text.now).comes.4

pub returns-in-7-clause-answers : goal.returns-in-7-clause-answers
returns-in-7-clause-answers c =
    let room : (length c.args.w.now.left == c.args.call.now.room) ≡ true = grind (arith, nat_tests, c.requires.room) in
    answered c.args.limits c.args.call.now Openings c.args.answer.now c.args.text.now c.args.w.now c.put_opened.result c.put_opened.new.w (opened_answer (λ h. h) c.opened.result) (ap (λ n. kind_told n c.args.call.now.size) c.in-7.is) c.requires.room room (c.opened.ensures c.args.text.now c.args.w.now.left) (c.put_opened.ensures c.args.limits) tt

pub returns-in-8-clause-answers : goal.returns-in-8-clause-answers
returns-in-8-clause-answers c =
    let room : (length c.args.w.now.left == c.args.call.now.room) ≡ true = grind (arith, nat_tests, c.requires.room) in
    answered c.args.limits c.args.call.now Creations c.args.answer.now c.args.text.now c.args.w.now c.put_created.result c.put_created.new.w (created_answer (λ h. h) c.created.result) (ap (λ n. kind_told n c.args.call.now.size) c.in-8.is) c.requires.room room (c.created.ensures c.args.text.now c.args.w.now.left) (c.put_created.ensures c.args.limits) tt

pub returns-in-9-clause-answers : goal.returns-in-9-clause-answers
returns-in-9-clause-answers c =
    let room : (length c.args.w.now.left == c.args.call.now.room) ≡ true = grind (arith, nat_tests, c.requires.room) in
    answered c.args.limits c.args.call.now Capacities c.args.answer.now c.args.text.now c.args.w.now c.put_statistics.result c.put_statistics.new.w (statistics_answer c.statistics.result) (ap (λ n. kind_told n c.args.call.now.size) c.in-9.is) c.requires.room room (c.statistics.ensures c.args.text.now c.args.w.now.left) (c.put_statistics.ensures c.args.limits) tt

pub returns-in-10-clause-answers : goal.returns-in-10-clause-answers
returns-in-10-clause-answers c =
    let room : (length c.args.w.now.left == c.args.call.now.room) ≡ true = grind (arith, nat_tests, c.requires.room) in
    answered c.args.limits c.args.call.now Texts c.args.answer.now c.args.text.now c.args.w.now c.put_text.result c.put_text.new.w (text_said c.text.result c.args.text.now) (ap (λ n. kind_told n c.args.call.now.size) c.in-10.is) c.requires.room room (c.text.ensures.said c.args.w.now.left) (c.put_text.ensures c.args.limits) tt

pub returns-in-11-clause-answers : goal.returns-in-11-clause-answers
returns-in-11-clause-answers c =
    let room : (length c.args.w.now.left == c.args.call.now.room) ≡ true = grind (arith, nat_tests, c.requires.room) in
    answered c.args.limits c.args.call.now TextsOrCounts c.args.answer.now c.args.text.now c.args.w.now c.put_value.result c.put_value.new.w (value_said c.value.result c.args.text.now) (ap (λ n. kind_told n c.args.call.now.size) c.in-11.is) c.requires.room room (c.value.ensures.said c.args.w.now.left) (c.put_value.ensures c.args.limits) tt

pub returns-in-12-clause-answers : goal.returns-in-12-clause-answers
returns-in-12-clause-answers c =
    let room : (length c.args.w.now.left == c.args.call.now.room) ≡ true = grind (arith, nat_tests, c.requires.room) in
    answered c.args.limits c.args.call.now Offsets c.args.answer.now c.args.text.now c.args.w.now c.put_offset.result c.put_offset.new.w (offset_answer c.offset.result) (ap (λ n. kind_told n c.args.call.now.size) c.in-12.is) c.requires.room room (c.offset.ensures c.args.text.now c.args.w.now.left) (c.put_offset.ensures c.args.limits) tt

pub returns-in-13-clause-answers : goal.returns-in-13-clause-answers
returns-in-13-clause-answers c =
    let room : (length c.args.w.now.left == c.args.call.now.room) ≡ true = grind (arith, nat_tests, c.requires.room) in
    answered c.args.limits c.args.call.now Writes c.args.answer.now c.args.text.now c.args.w.now c.put_written.result c.put_written.new.w (written_answer c.written.result) (ap (λ n. kind_told n c.args.call.now.size) c.in-13.is) c.requires.room room (c.written.ensures c.args.text.now c.args.w.now.left) (c.put_written.ensures c.args.limits) tt

pub returns-in-15-clause-answers : goal.returns-in-15-clause-answers
returns-in-15-clause-answers c =
    let room : (length c.args.w.now.left == c.args.call.now.room) ≡ true = grind (arith, nat_tests, c.requires.room) in
    answered c.args.limits c.args.call.now Faults c.args.answer.now c.args.text.now c.args.w.now c.put_fault_alone.result c.put_fault_alone.new.w (Failed c.fault.result) (ap (λ n. kind_told n c.args.call.now.size) c.in-15.is) c.requires.room room (c.fault.ensures c.args.text.now c.args.w.now.left) (c.put_fault_alone.ensures c.args.limits) tt

pub returns-in-0-clause-none_taken : goal.returns-in-0-clause-none_taken
returns-in-0-clause-none_taken c = (c.put_nothing.ensures c.args.limits).4

pub returns-in-1-clause-none_taken : goal.returns-in-1-clause-none_taken
returns-in-1-clause-none_taken c = (c.put_done.ensures c.args.limits).4

pub returns-in-2-clause-none_taken : goal.returns-in-2-clause-none_taken
returns-in-2-clause-none_taken c = (c.put_fault.ensures c.args.limits).4

pub returns-in-7-clause-none_taken : goal.returns-in-7-clause-none_taken
returns-in-7-clause-none_taken c = (c.put_opened.ensures c.args.limits).4

pub returns-in-8-clause-none_taken : goal.returns-in-8-clause-none_taken
returns-in-8-clause-none_taken c = (c.put_created.ensures c.args.limits).4

pub returns-in-9-clause-none_taken : goal.returns-in-9-clause-none_taken
returns-in-9-clause-none_taken c = (c.put_statistics.ensures c.args.limits).4

pub returns-in-10-clause-none_taken : goal.returns-in-10-clause-none_taken
returns-in-10-clause-none_taken c = (c.put_text.ensures c.args.limits).4

pub returns-in-11-clause-none_taken : goal.returns-in-11-clause-none_taken
returns-in-11-clause-none_taken c = (c.put_value.ensures c.args.limits).4

pub returns-in-12-clause-none_taken : goal.returns-in-12-clause-none_taken
returns-in-12-clause-none_taken c = (c.put_offset.ensures c.args.limits).4

pub returns-in-13-clause-none_taken : goal.returns-in-13-clause-none_taken
returns-in-13-clause-none_taken c = (c.put_written.ensures c.args.limits).4

pub returns-in-15-clause-none_taken : goal.returns-in-15-clause-none_taken
returns-in-15-clause-none_taken c = (c.put_fault_alone.ensures c.args.limits).4
