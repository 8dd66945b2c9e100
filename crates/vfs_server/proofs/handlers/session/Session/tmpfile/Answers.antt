-- The answer that was given is the fault: a search does not find a fault by what is said of it.
use Rattle.std.proofs.Common.{rules}
use Rattle.vfs_files.specs.Answers.{Failed}
use Rattle.vfs_server.specs.Handling.{Serves}
use Rattle.vfs_server.proofs.handlers.session.Session.tmpfile.Goals as goal

pub returns : goal.returns
unfolding Serves
returns g c = (
  (
    Failed c.tmpfile-fault.result,
    search rules,
    c.reply_fault_alone.ensures.kind,
    c.reply_fault_alone.ensures.replied,
    search rules,
  ),
  search rules,
)
