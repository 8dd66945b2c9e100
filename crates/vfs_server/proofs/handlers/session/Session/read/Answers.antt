-- Nothing was put beyond the data.
use Rattle.vfs_files.specs.Answers.{read_answer}
use Rattle.vfs_server.proofs.Listings.{data_after}
use Rattle.vfs_server.specs.Handling.{Serves}
use Rattle.vfs_server.proofs.handlers.session.Session.read.Goals as goal

pub returns : goal.returns
unfolding Serves
returns g c =
    let r = c.read_into-answer.ensures in
    let h = data_after c.args.w.now c.hold_header.new.w c.read_into-answer.new.w r.bytes c.in_ok-hold_header.ensures.held c.in_ok-hold_header.ensures.enough r.moves in
    rw (c.in_ok-read_in.ensures.value, c.in_ok-hold_header.ensures.room) (
      (
        read_answer c.read_into-answer.result r.bytes,
        rw c.record.ensures.header at r.allowed,
        c.reply_data.ensures.kind r.bytes c.in_ok-read_in.read_in.size r.counts,
        rw c.record.ensures.header at (c.reply_data.ensures.replied c.args.w.now r.bytes c.in_ok-read_in.read_in.size h r.counts),
        r.same_options,
      ),
      r.same_limits,
    )
