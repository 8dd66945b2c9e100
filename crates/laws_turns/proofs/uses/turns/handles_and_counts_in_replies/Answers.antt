use Rattle.std.proofs.Common.{Some, ap}
use Rattle.vfs_wire.specs.declared.entries.EntryOut.{EntryOut}
use Rattle.vfs_wire_more.specs.declared.files.OpenOut.{OpenOut}
use Rattle.vfs_files.specs.Calls.{Open, Write, Getxattr, Create, Opened, Created, Count, Wrote}
use Rattle.laws_turns.specs.Turns.{AnswersWhole}
use Rattle.laws_turns.proofs.uses.turns.handles_and_counts_in_replies.Goals as goal

pub returns-clause-open : goal.returns-clause-open
returns-clause-open c = λ limits options after inode handle how flags ctx kill_priv t turn e o.
    let answered : AnswersWhole limits options (Opened (Some handle) how) t after =
    record { turn = turn; call = Open ctx inode kill_priv flags; called = e; len = 32; fits = o } in
    let same = c.replies_say_what_was_answered.ensures.opening limits options after t (Some handle) how answered in
    (ap (λ (r : OpenOut). r.fh) same, ap (λ (r : OpenOut). r.open_flags) same)

pub returns-clause-create : goal.returns-clause-create
returns-clause-create c = λ limits options after parent handle how mode flags umask ctx kill_priv name ext entry t turn e o.
    let answered : AnswersWhole limits options (Created entry (Some handle) how) t after =
    record { turn = turn; call = Create ctx parent name mode kill_priv flags umask ext; called = e; len = 160; fits = o } in
    let same = c.replies_say_what_was_answered.ensures.creation limits options after t entry (Some handle) how answered in
    (ap (λ (r : EntryOut). r.nodeid) same.0, ap (λ (r : OpenOut). r.fh) same.1)

pub returns-clause-getxattr : goal.returns-clause-getxattr
returns-clause-getxattr c = λ limits options after inode size asked ctx name t turn e o.
    let answered : AnswersWhole limits options (Count size) t after =
    record { turn = turn; call = Getxattr ctx inode name asked; called = e; len = 24; fits = o } in
    c.replies_say_what_was_answered.ensures.count limits options after t size answered

pub returns-clause-write : goal.returns-clause-write
returns-clause-write c = λ limits options after inode handle size offset flags count ctx bytes owner delayed kill_priv t turn e o.
    let answered : AnswersWhole limits options (Wrote count) t after =
    record {
      turn = turn;
      call = Write ctx inode handle bytes size offset owner delayed kill_priv flags;
      called = e;
      len = 24;
      fits = o;
    } in
    c.replies_say_what_was_answered.ensures.written limits options after t count answered
