use Rattle.std.proofs.Common.{◌≡◌, true, rules}
use Rattle.c_rooms.specs.Codes.{no_memory, outcome_code}
use Rattle.nizwarf_codec.proofs.Answering.{none_keeps, told_answered, told_keeps, told_wants_none}
use Rattle.nizwarf_codec.proofs.Asking.{other_number}
use Rattle.nizwarf_codec.proofs.answer.answer_call.Goals as goal

pub returns-in-Some-clause-answered : goal.returns-in-Some-clause-answered
returns-in-Some-clause-answered c =
    let begun : c.begin_answer.result ≡ true = search rules in
    let was = c.begin_answer.ensures.was_answered in
    rw was (told_answered _ _ _ _ _ _ _ c.begin_answer.new.self.answers.writer c.answer.new.w c.answer.result
    (c.begin_answer.ensures.left begun) c.put_of-room.ensures _ _ _ _ c.in-Some.came (
      c.answer.ensures.by_kind,
      c.answer.ensures.calls,
      c.answer.ensures.listings,
      c.answer.ensures.within,
    ) (search rules)
    (c.begin_answer.ensures.start begun) (c.begin_answer.ensures.one begun)
    (search rules) c.number_and_length-code.ensures.length c.put_of-put.ensures)

pub returns-in-Some-clause-memory : goal.returns-in-Some-clause-memory
returns-in-Some-clause-memory c = λ has code.
    let number = c.number_and_length-code.ensures.number in
    let is : outcome_code c.in-Some.came.outcome ≡ no_memory = search (rules, code, number) in
    let begun : c.begin_answer.result ≡ true = search rules in
    let other = told_wants_none _ _ _ _ _ _ c.args.told.now c.begin_answer.new.self.answers.writer c.answer.new.w c.answer.result
    (c.begin_answer.ensures.left begun) c.put_of-room.ensures c.in-Some.came (
      c.answer.ensures.by_kind,
      c.answer.ensures.calls,
      c.answer.ensures.listings,
      c.answer.ensures.within,
    ) (search rules) in
    other_number c.in-Some.came.outcome other is

pub returns-in-Some-clause-keeps : goal.returns-in-Some-clause-keeps
returns-in-Some-clause-keeps c n has =
    told_keeps c.args.limits c.args.call.now c.args.answer.now c.args.text.now c.args.items.now n c.begin_answer.new.self.answers c.answer.new.w c.answer.result c.in-Some.came
    c.answer.ensures.by_kind (search rules) (c.begin_answer.ensures.keeps n has)

pub returns-in-None-clause-keeps : goal.returns-in-None-clause-keeps
returns-in-None-clause-keeps c n has =
    none_keeps c.args.limits c.args.call.now c.args.answer.now c.args.text.now c.args.items.now n c.begin_answer.new.self.answers c.answer.new.w c.answer.result
    c.answer.ensures.by_kind (search rules) (c.begin_answer.ensures.keeps n has)
