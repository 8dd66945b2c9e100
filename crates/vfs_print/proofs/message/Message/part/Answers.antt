use Rattle.vfs_print.proofs.LineLemmas.{short_put}
use Rattle.vfs_print.proofs.message.Message.part.Goals as goal

pub returns-in-Some : goal.returns-in-Some
returns-in-Some c =
    short_put c.args.self.now c.in-Some.line.now c.new-part.result c.put_text.new.self c.args.from
    c.in-Some.ensures c.new-part.ensures.place c.new-part.ensures.empty c.put_text.ensures
