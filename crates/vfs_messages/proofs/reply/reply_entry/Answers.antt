use Rattle.vfs_messages.proofs.reply.reply_entry.Goals as goal

pub returns-in-Ok-clause-kind : goal.returns-in-Ok-clause-kind
returns-in-Ok-clause-kind c = rw c.in-Ok.is (rw c.from.ensures at c.reply_record.ensures.in_width)
