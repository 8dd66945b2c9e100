use Rattle.std.proofs.Common.{◌≡◌, arith, length, rules}
use Rattle.std.proofs.lemmas.Bool.Decides.{nat_tests}
use Rattle.vfs_messages.proofs.Rooms.{wrote_none}
use Rattle.vfs_messages.proofs.reply.put_body.Goals as goal

pub returns-then-is_empty : goal.returns-then-is_empty
returns-then-is_empty c =
    let none : length c.args.body.now ≡ 0 = grind (arith, nat_tests, c.is_empty.ensures, c.if-is_empty.true) in
    wrote_none c.args.w.now c.args.body.now none

pub returns : goal.returns
returns c = search rules
