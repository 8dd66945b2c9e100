use Rattle.vfs_run.proofs.SessionLemmas.{third_is_bad, one_is_asked}
use Rattle.vfs_run.proofs.line_uses.a_session_ends_at_its_first_bad_line.Goals as goal

pub returns : goal.returns
returns c =
    let third = third_is_bad _ (rw (c.as_slice.ensures, c.as_slice-2.ensures, c.as_slice-3.ensures) at c.in_ok-read.ensures.read) in
    (third, one_is_asked _ _ third (rw (c.as_slice.ensures, c.as_slice-2.ensures, c.as_slice-3.ensures) at c.in_ok-read.ensures.asked))
