use Rattle.std.proofs.Common.{◌≤◌, ◌<◌, length, arith}
use Rattle.test_uses.proofs.clauses.segments.number_of_fields.Goals as goal

pub returns-in-Err : goal.returns-in-Err
returns-in-Err c =
    let short : length c.args.reader.now.left < 4 = grind (arith, c.in-Err.ensures.variant) in
    (c.in-Err.ensures.answers.short short).1.taken

pub returns-in-Ok : goal.returns-in-Ok
returns-in-Ok c =
    let enough : 4 ≤ length c.args.reader.now.left = grind (arith, c.in-Ok.ensures.variant) in
    let read = c.in-Ok.ensures.answers in
    let fields = (read.1.1.enough enough).0 in
    (read.0, read.1.0, cc (fields))
