-- The bytes that the call was lent are those after the record.
use Rattle.std.proofs.Common.{rules}
use Rattle.vfs_files.specs.Answers.{written_answer}
use Rattle.vfs_server.specs.Handling.{Serves}
use Rattle.vfs_server.proofs.handlers.session.Session.write.Goals as goal

pub returns : goal.returns
unfolding Serves
returns g c =
    rw c.in_ok-write_in.ensures.value (
      (
        written_answer c.write-answer.result,
        search (rules, c.write-answer.ensures.2),
        c.reply_written.ensures.kind,
        search rules,
        search rules,
      ),
      search rules,
    )
