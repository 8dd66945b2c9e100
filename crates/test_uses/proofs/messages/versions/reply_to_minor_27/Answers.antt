use Rattle.std.proofs.Common.{refl}
use Rattle.vfs_messages.proofs.Versions.{version_asks}
use Rattle.test_uses.proofs.messages.versions.reply_to_minor_27.Goals as goal

pub returns-clause-none : goal.returns-clause-none
returns-clause-none c = (version_asks _ _ c.args.w.now c.reply_unserved.result c.reply_unserved.new.w _ _ refl c.reply_unserved.ensures).0

pub returns-clause-same : goal.returns-clause-same
returns-clause-same c = (version_asks _ _ c.args.w.now c.reply_unserved.result c.reply_unserved.new.w _ _ refl c.reply_unserved.ensures).1
