use Rattle.std.proofs.Common.{◌<◌, ◌^◌, ◌-◌, Ok, Err}
use Rattle.vfs_messages.proofs.Following.{data_replied}
use Rattle.vfs_messages.proofs.reply.reply_data.Goals as goal

pub returns-in-Ok-clause-replied : goal.returns-in-Ok-clause-replied
returns-in-Ok-clause-replied c = λ old bytes size h counts.
    let short : c.in-Ok.count < 2 ^ 32 - 16 = rw c.in-Ok.is at c.requires.short in
    rw c.in-Ok.is (rw (c.reply_readdir.ensures.outcome short)
    (data_replied old c.args.w.now c.reply_readdir.new.w bytes (Ok c.in-Ok.count) c.args.unique size h (rw c.in-Ok.is at counts)
    (c.reply_readdir.ensures.filled short)))

pub returns-in-Err-clause-replied : goal.returns-in-Err-clause-replied
returns-in-Err-clause-replied c = λ old bytes size h counts.
    rw c.in-Err.is (rw (c.reply_error.ensures.held_outcome c.requires.held)
    (data_replied old c.args.w.now c.reply_error.new.w bytes (Err c.in-Err.fault) c.args.unique size h tt
    (c.reply_error.ensures.held c.requires.held)))
