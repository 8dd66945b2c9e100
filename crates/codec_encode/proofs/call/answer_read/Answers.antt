-- The header alone is put, whatever comes after it.
use Rattle.std.proofs.Common.{◌≡◌, ◌≤◌, ◌&&◌, nat_le, true, length, arith}
use Rattle.std.proofs.lemmas.Bool.Decides.{nat_tests}
use Rattle.codec_encode.proofs.Told.{read_answered}
use Rattle.codec_encode.proofs.call.answer_read.Goals as goal

pub returns-clause-answers : goal.returns-clause-answers
returns-clause-answers c limits text =
    let enough : 16 ≤ length c.args.w.now.left = omega arith in
    let can : (nat_le 16 (length c.args.w.now.left) && nat_le (length c.args.w.now.left) c.args.call.now.room) ≡ true = grind (arith, nat_tests) in
    (can, read_answered limits c.args.call.now c.args.answer.now text c.args.w.now c.put_data.new.w c.put_data.result c.data.result enough c.data.ensures.count c.data.ensures.said c.put_data.ensures.plain c.put_data.ensures.put)
