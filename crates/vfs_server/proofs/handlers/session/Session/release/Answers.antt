-- The flags that the call was given are those of the record: its answer is followed as it is.
use Rattle.std.proofs.Common.{◌≡◌, ap, rules}
use Rattle.vfs_files.specs.Answers.{done_answer}
use Rattle.vfs_server.specs.Handling.{Serves}
use Rattle.vfs_server.specs.State.{ServerState}
use Rattle.vfs_server.proofs.handlers.session.Session.release.Goals as goal

pub returns : goal.returns
unfolding Serves
returns g c =
    let same : _ ≡ c.args.self.now = c.self.view_is in
    rw c.in_ok-release_in.ensures.value (
      (
        done_answer c.release-answer.result,
        rw (c.context.ensures, c.node.ensures, c.from_number-handle.ensures, c.is_set.ensures, c.is_set-2.ensures, c.number_if-owner.ensures, c.record.ensures.header, ap (λ (s : ServerState g.row.F.Denot). s.fs) same) at c.release-answer.ensures,
        c.reply_done.ensures.kind,
        search rules,
        ap (λ (s : ServerState g.row.F.Denot). s.options) same,
      ),
      ap (λ (s : ServerState g.row.F.Denot). s.limits) same,
    )
