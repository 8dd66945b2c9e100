use Rattle.test_uses.proofs.clauses.messages.size_of_a_replied.Goals as goal

pub returns : goal.returns
returns g c = c.bytes_have_size.ensures c.args.x c.reply_ok.ensures.in_width
