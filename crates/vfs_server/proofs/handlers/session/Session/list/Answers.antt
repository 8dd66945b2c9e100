-- The reading is a run, whose records are counted and come after the place of the header.
use Rattle.std.proofs.Common.{◌≡◌, false, length, ap, arith}
use Rattle.vfs_files.specs.Values.{context_of}
use Rattle.vfs_listings.specs.ReadingLaws.{directory_runs}
use Rattle.vfs_grammar.specs.Ask.{listing_of, lists_too_much}
use Rattle.vfs_server.proofs.Listings.{records_after, directory_counts, within_limit, run_from}
use Rattle.vfs_server.specs.State.{ServerState}
use Rattle.vfs_server.proofs.handlers.session.Session.list.Goals as goal

pub returns : goal.returns
returns g c =
    let h = c.args.q.header.now in
    let r = c.in_ok-read_in.read_in in
    let w = c.args.w.now in
    let held = c.hold_header.new.w in
    let answer = c.read_directory-answer.result in
    let left = c.read_directory-answer.new.w in
    let same : _ ≡ c.args.self.now = c.self.view_is in
    let fits : lists_too_much c.args.self.now.limits (length w.left) r ≡ false = cc in
    let limit = within_limit c.args.self.now.limits (length w.left) r fits in
    let run = directory_runs g.F.FileSystem.allows g.F.DirIter.DirectoryIterator.gives (context_of h) c.args.plus h.nodeid r.fh r.size r.offset c.self.inside.fs held answer c.read_directory-answer.new.fs left (rw c.record.ensures.header at c.read_directory-answer.ensures.reads) in
    let counts = directory_counts (listing_of c.args.plus h r (length held.left)) _ run.body answer run.directory (omega (arith, limit, c.self.invariant.greatest, ap (λ (s : ServerState g.row.F.Denot). s.limits.max_buffer) same)) in
    let following = records_after w held left run.body run.beyond c.in_ok-hold_header.ensures.held c.in_ok-hold_header.ensures.enough run.puts in
    rw (c.in_ok-read_in.ensures.value, fits, c.in_ok-hold_header.ensures.room) (
      (
        run.body,
        answer,
        record { events = run.events; is_run = run_from g.F.FileSystem.allows g.F.DirIter.DirectoryIterator.gives _ _ _ run.events (ap (λ (s : ServerState g.row.F.Denot). s.fs) same) run.is_run; is_read = run.directory },
        c.reply_data.ensures.kind run.body r.size counts,
        rw c.record.ensures.header at (c.reply_data.ensures.replied w run.body r.size following counts),
        ap (λ (s : ServerState g.row.F.Denot). s.options) same,
      ),
      ap (λ (s : ServerState g.row.F.Denot). s.limits) same,
    )
